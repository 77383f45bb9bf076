-- A positional is one of the words.
use Rattle.std.proofs.Common.{◌≡◌, ℕ, List, [], ◌∷◌, Some, refl, ap, arith, suc, inl, inr}
use Rattle.std.specs.Prelude.{Contains}
use Rattle.lexopt_spec.specs.UnreadLine.{UnreadLine}
use Rattle.lexopt_spec.specs.Steps.{Reply, positional, short, no_memory, NextStep, joined_value, equals_value, next_in_cluster, after_separator, next_word, ReadsPositional, no_word_left, word_left, ReadsWord, no_word, reads_separator, reads_long, reads_cluster, reads_positional}
use Rattle.lexopt_base.specs.Replies.{IsReplyOfNext}

-- the word of a reply that is a positional
abbrev word_of : Reply → List ℕ
word_of (positional w) = w
word_of other = []

is_first : (u : UnreadLine) (w v : List ℕ) (ws : List (List ℕ)) → u.words ≡ v ∷ ws → positional w ≡ positional v → Contains u.words w
is_first u w v ws words is = let same : w ≡ v = ap word_of is in rw (words, same) (0, omega arith, refl)

in_words : (u : UnreadLine) (w : List ℕ) (after : UnreadLine) → ReadsPositional u (positional w) after → Contains u.words w
in_words u w after (no_word_left none is left) = cc
in_words u w after (word_left v ws words is left) = is_first u w v ws words is

in_tail : (v w : List ℕ) (ws : List (List ℕ)) → Contains ws w → Contains (v ∷ ws) w
in_tail v w ws has = (suc has.0, omega (arith, has.1), has.2)

in_word : (u : UnreadLine) (w : List ℕ) (after : UnreadLine) → ReadsWord u (positional w) after → Contains u.words w
in_word u w after (no_word none is left) = cc
in_word u w after (reads_separator ws words reads) = rw words (in_tail _ w ws (in_words _ w after reads))
in_word u w after (reads_long text name tail ws words some cut is left) = cc
in_word u w after (reads_cluster bytes ws words one reads) = let is : positional w ≡ short _ = reads.reply_is in cc
in_word u w after (reads_positional v ws words plain is left) = is_first u w v ws words is

in_step : (u : UnreadLine) (w : List ℕ) (after : UnreadLine) → NextStep u (positional w) after → Contains u.words w
in_step u w after (joined_value value option tail spelled is left) = cc
in_step u w after (equals_value value option tail on spelled is left) = cc
in_step u w after (next_in_cluster bytes tail goes reads) = let is : positional w ≡ short _ = reads.reply_is in cc
in_step u w after (after_separator tail ended reads) = in_words u w after reads
in_step u w after (next_word tail ended reads) = in_word u w after reads

-- a word that `next` can return as a positional is one of the words
pub positional_is_a_word : (u : UnreadLine) (w : List ℕ) → IsReplyOfNext u (Some (positional w)) → Contains u.words w
positional_is_a_word u w (after, inl step) = in_step u w after step
positional_is_a_word u w (after, inr refused) = let is : positional w ≡ no_memory = refused.reply_is in cc
