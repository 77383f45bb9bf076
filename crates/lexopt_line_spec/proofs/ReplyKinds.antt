-- The replies that each call can give.
use Rattle.std.proofs.Common.{◌≡◌, true, false, sym, ap, subst, ◌∙◌}
use Rattle.lexopt_spec.specs.UnreadLine.{Tail, UnreadLine, IsLine, TailFits}
use Rattle.lexopt_spec.specs.Steps as steps
use Rattle.lexopt_spec.specs.Steps.{Reply, ReadsPositional, no_word_left, word_left, ReadsWord, no_word, reads_separator, reads_long, reads_cluster, reads_positional, NextStep, equals_value, next_in_cluster, after_separator, ValueStep, pending_value, takes_word, nothing_to_take, OptionalStep, optional_pending, optional_none}
use Rattle.lexopt_line_spec.proofs.FullValues.{FullStep, joined_one, attached_first, words_alone, nothing_given}

abbrev pub IsNextReply : Reply → Type 0
IsNextReply (steps.short c) = Unit {0}
IsNextReply (steps.long name) = Unit {0}
IsNextReply (steps.positional word) = Unit {0}
IsNextReply steps.end = Unit {0}
IsNextReply (steps.unexpected o word) = Unit {0}
IsNextReply reply = ⊥

positional_reply : (u v : UnreadLine) (r : Reply) → ReadsPositional u r v → IsNextReply r
positional_reply u v r (no_word_left a is b) = subst IsNextReply (sym is) tt
positional_reply u v r (word_left w ws a is b) = subst IsNextReply (sym is) tt

word_reply : (u v : UnreadLine) (r : Reply) → ReadsWord u r v → IsNextReply r
word_reply u v r (no_word a is b) = subst IsNextReply (sym is) tt
word_reply u v r (reads_separator ws a reads) = positional_reply (record u { words = ws; ended = true }) v r reads
word_reply u v r (reads_long text name tail ws a some long_is is b) = subst IsNextReply (sym is) tt
word_reply u v r (reads_cluster bytes ws a other reads) = subst IsNextReply (sym reads.reply_is) tt
word_reply u v r (reads_positional w ws a plain is b) = subst IsNextReply (sym is) tt

pub next_reply : (u v : UnreadLine) (r : Reply) → NextStep u r v → IsNextReply r
next_reply u v r (steps.joined_value x o a b is c) = subst IsNextReply (sym is) tt
next_reply u v r (equals_value x o a on b is c) = subst IsNextReply (sym is) tt
next_reply u v r (next_in_cluster bytes a other reads) = subst IsNextReply (sym reads.reply_is) tt
next_reply u v r (after_separator a e reads) = positional_reply u v r reads
next_reply u v r (steps.next_word a e reads) = word_reply u v r reads

abbrev pub IsValueReply : Reply → Type 0
IsValueReply (steps.taken word) = Unit {0}
IsValueReply (steps.missing o) = Unit {0}
IsValueReply (steps.maybe value) = Unit {0}
IsValueReply (steps.items values) = Unit {0}
IsValueReply reply = ⊥

pub value_reply : (u v : UnreadLine) (r : Reply) → ValueStep u r v → IsValueReply r
value_reply u v r (pending_value x by a is b) = subst IsValueReply (sym is) tt
value_reply u v r (takes_word w ws a b is c) = subst IsValueReply (sym is) tt
value_reply u v r (nothing_to_take a b is c) = subst IsValueReply (sym is) tt

pub optional_reply : (u v : UnreadLine) (r : Reply) → OptionalStep u r v → IsValueReply r
optional_reply u v r (optional_pending x by a is b) = subst IsValueReply (sym is) tt
optional_reply u v r (optional_none a is b) = subst IsValueReply (sym is) tt

pub values_reply : (u v : UnreadLine) (r : Reply) → FullStep u r v → IsValueReply r
values_reply u v r (joined_one x a is b) = subst IsValueReply (sym is) tt
values_reply u v r (attached_first x f l a g is b) = subst IsValueReply (sym is) tt
values_reply u v r (words_alone f l a g some is b) = subst IsValueReply (sym is) tt
values_reply u v r (nothing_given a none is b) = subst IsValueReply (sym is) tt

-- after an option, the separator has not been read
abbrev IsOptionReply : Reply → Type 0
IsOptionReply (steps.short c) = Unit {0}
IsOptionReply (steps.long name) = Unit {0}
IsOptionReply reply = ⊥

positional_none : (u v : UnreadLine) (r : Reply) → ReadsPositional u r v → IsOptionReply r → ⊥
positional_none u v r (no_word_left a is b) h = subst IsOptionReply is h
positional_none u v r (word_left w ws a is b) h = subst IsOptionReply is h

word_open : (u v : UnreadLine) (r : Reply) → u.ended ≡ false → ReadsWord u r v → IsOptionReply r → v.ended ≡ false
word_open u v r e (no_word a is b) h = absurd (subst IsOptionReply is h)
word_open u v r e (reads_separator ws a reads) h = absurd (positional_none (record u { words = ws; ended = true }) v r reads h)
word_open u v r e (reads_long text name tail ws a some long_is is b) h = ap (λ (l : UnreadLine). l.ended) b ∙ e
word_open u v r e (reads_cluster bytes ws a other reads) h = ap (λ (l : UnreadLine). l.ended) reads.after_is ∙ e
word_open u v r e (reads_positional w ws a plain is b) h = absurd (subst IsOptionReply is h)

pub next_open : (u v : UnreadLine) (r : Reply) → IsLine u → NextStep u r v → IsOptionReply r → v.ended ≡ false
next_open u v r line (steps.joined_value x o a b is c) h = absurd (subst IsOptionReply is h)
next_open u v r line (equals_value x o a on b is c) h = absurd (subst IsOptionReply is h)
next_open u v r line (next_in_cluster bytes a other reads) h =
    ap (λ (l : UnreadLine). l.ended) reads.after_is ∙ (subst (λ (t : Tail). TailFits t u.last u.ended) a line).1
next_open u v r line (after_separator a e reads) h = absurd (positional_none u v r reads h)
next_open u v r line (steps.next_word a e reads) h = word_open u v r e reads h
