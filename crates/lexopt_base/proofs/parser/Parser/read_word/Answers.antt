use Rattle.std.proofs.Common.{◌≡◌, ℕ, List, ◌∷◌, drop, refl, sym, ap, subst, ◌∙◌, inl, true, false, string_bytes}
use Rattle.std.proofs.lemmas.Result.{err_from_is_err_and}
use Rattle.lexopt_spec.specs.Pieces.{after_first_piece, first_piece, lossy, shown}
use Rattle.lexopt_spec.specs.UnreadLine.{UnreadLine, rest_of, long_option, short_option, IsPlain}
use Rattle.lexopt_spec.specs.Steps.{Answers, long, short, ReadsPositional, ReadsWord, IsLongOption, reads_separator, reads_long, reads_cluster}
use Rattle.lexopt_spec.proofs.LineLemmas.{first_word, got_word, same_parts, long_exists}
use Rattle.lexopt_base.specs.Models.{tail_of, last_of, line_of, IsShortRead}
use Rattle.lexopt_base.specs.Replies.{RepliesWith}
use Rattle.lexopt_base.specs.Found.{found_as, advance_reply}
use Rattle.lexopt_base.proofs.Refusals.{refused, gives_step, positional_read}
use Rattle.lexopt_base.proofs.parser.Parser.read_word.Goals as goal

pub returns-in_err-keep_name-in-Long : goal.returns-in_err-keep_name-in-Long
returns-in_err-keep_name-in-Long c =
    let u = c.args.self.now in
    let p = c.self.inside in
    let text = c.in-Long.ensures in
    let named = long_exists text.0 in
    let seen = c.in-Some.ensures in
    let words = ap (λ (l : UnreadLine). l.words) (sym c.self.view_is) ∙ seen.1 ∙ ap (λ (w : List ℕ). w ∷ seen.0) (sym c.as_bytes-word.ensures ∙ text.1) in
    let made = err_from_is_err_and c.from_residual.result c.from_residual.ensures.1 in
    let same : line_of (record p { name = c.keep_name.new.kept }) ≡ u =
    ap (λ (n : List ℕ). record (line_of p) { last = last_of p.last_option n }) c.in_err-keep_name-in-Long.ensures.err ∙ c.self.view_is in
    subst (λ (l : UnreadLine). RepliesWith (Answers ReadsWord) u (advance_reply l.last c.from_residual.result) l) (sym same)
    (rw (made.1, made.2)
    (refused ReadsWord u (long (lossy named.0)) _
    (reads_long text.0 named.0 named.1 seen.0 words text.2 named.2 refl refl) tt))

pub returns-in-Separator : goal.returns-in-Separator
returns-in-Separator c =
    let u = c.args.self.now in
    let p = c.self.inside in
    let seen = c.in-Some.ensures in
    let now = c.pass.new.self in
    let is = ap (λ (l : UnreadLine). l.words) (sym c.self.view_is)
    ∙ first_word p.words.left now.left seen.0 now.current c.in-Some.word.now c.as_bytes-word.result.now _ c.pass.ensures seen.1 c.as_bytes-word.ensures c.in-Separator.ensures in
    let same = same_parts _ (record u { words = now.left; ended = true })
    (sym c.requires.tail) refl refl
    (ap (λ (l : UnreadLine). l.last) c.self.view_is)
    (ap (λ (l : UnreadLine). l.short_equals) c.self.view_is) (ap (λ (l : UnreadLine). l.bin_name) c.self.view_is) in
    gives_step ReadsPositional ReadsWord _ u
    (λ r v reads. reads_separator now.left is (subst (λ (l : UnreadLine). ReadsPositional l r v) same reads))
    (found_as c.read_positional.new.self.last c.read_positional.result) c.read_positional.new.self c.read_positional.ensures

pub returns-in_ok-keep_name-in-Long : goal.returns-in_ok-keep_name-in-Long
returns-in_ok-keep_name-in-Long c =
    let u = c.args.self.now in
    let p = c.self.inside in
    let text = c.in-Long.ensures in
    let seen = c.in-Some.ensures in
    let now = c.pass-in-Long.new.self in
    let read = c.read_long-state.ensures in
    let name = c.read_long-state.result.0.now in
    let state = c.read_long-state.result.1 in
    let shown : string_bytes c.keep_name.new.kept ≡ lossy name = c.in_ok-keep_name-in-Long.ensures.ok in
    let is = ap (λ (l : UnreadLine). l.words) (sym c.self.view_is)
    ∙ first_word p.words.left now.left seen.0 now.current c.in-Some.word.now c.as_bytes-word.result.now _ c.pass-in-Long.ensures seen.1 c.as_bytes-word.ensures text.1 in
    let got = got_word p.words.left now.left seen.0 now.current c.in-Some.word.now c.as_bytes-word.result.now _ c.pass-in-Long.ensures seen.1 c.as_bytes-word.ensures text.1 in
    let option = subst (λ (l : List ℕ). IsLongOption l name (tail_of now.current state)) (ap (drop 2) text.1)
    (subst (λ (l : List ℕ). IsLongOption (drop 2 c.as_bytes-word.result.now) name (tail_of l state)) (text.1 ∙ sym got) read.option) in
    inl (reads_long text.0 name (tail_of now.current state) now.left is text.2 option (ap long shown)
    (same_parts _ _ refl refl (read.ended ∙ sym c.requires.ended) (ap long_option shown) (ap (λ (l : UnreadLine). l.short_equals) c.self.view_is) (ap (λ (l : UnreadLine). l.bin_name) c.self.view_is)))

pub returns-in-Shorts : goal.returns-in-Shorts
returns-in-Shorts c =
    let u = c.args.self.now in
    let p = c.self.inside in
    let text = c.in-Shorts.ensures in
    let seen = c.in-Some.ensures in
    let now = c.pass-in-Shorts.new.self in
    let is = ap (λ (l : UnreadLine). l.words) (sym c.self.view_is)
    ∙ first_word p.words.left now.left seen.0 now.current c.in-Some.word.now c.as_bytes-word.result.now _ c.pass-in-Shorts.ensures seen.1 c.as_bytes-word.ensures text.1 in
    let got = got_word p.words.left now.left seen.0 now.current c.in-Some.word.now c.as_bytes-word.result.now _ c.pass-in-Shorts.ensures seen.1 c.as_bytes-word.ensures text.1 in
    let same = text.1 ∙ sym got in
    let read = subst (λ (l : List ℕ). IsShortRead l 1 c.read_short-option.result.0 c.read_short-option.result.1) same c.read_short-option.ensures in
    let bytes : drop 1 now.current ≡ text.0 = ap (drop 1) got in
    let shows = read.shown_is ∙ ap (λ (l : List ℕ). shown (first_piece l).char) bytes in
    inl (reads_cluster text.0 now.left is text.3
    (record {
      some = text.2;
      reply_is = ap short shows;
      after_is = same_parts _ _ (read.tail ∙ ap (λ (l : List ℕ). rest_of (after_first_piece l)) bytes) refl (read.ended ∙ sym c.requires.ended)
          (ap short_option shows) (ap (λ (l : UnreadLine). l.short_equals) c.self.view_is) (ap (λ (l : UnreadLine). l.bin_name) c.self.view_is);
    }))

pub returns-in-Positional : goal.returns-in-Positional
returns-in-Positional c =
    let u = c.args.self.now in
    let seen = c.in-Some.ensures in
    let words = ap (λ (l : UnreadLine). l.words) (sym c.self.view_is) ∙ seen.1 in
    let plain = subst (λ (w : List ℕ). IsPlain false w) c.as_bytes-word.ensures c.in-Positional.ensures in
    gives_step ReadsPositional ReadsWord u u (λ r v reads. positional_read u c.in-Some.word.now seen.0 r v words plain reads)
    (found_as c.read_positional-in-Positional.new.self.last c.read_positional-in-Positional.result) c.read_positional-in-Positional.new.self c.read_positional-in-Positional.ensures
