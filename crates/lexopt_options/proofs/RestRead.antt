-- What is read of a line that may have a rest, by keys.
use Rattle.lexopt_options.proofs.Common.{◌≡◌, ◌++◌, ℕ, List, [], ◌∷◌, length, None, Some, false, true, refl, sym, ap, subst, append_assoc, ◌∙◌, arith, false≢true, UnreadLine, start, Means}
use Rattle.lexopt_options.proofs.Common.{are_accepted, counts, most, front_says, says_once, Options, Line, declaration_of, asked_view, IsLineOf, IsLineRead, RestStart, Separated, Surplus}
use Rattle.lexopt_options_spec.specs.Asking.{AskFor, asked_by, first_asked}
use Rattle.lexopt_options_spec.specs.Declaration.{Asked, Declaration}
use Rattle.lexopt_options_spec.specs.Legal as legal
use Rattle.lexopt_options_spec.specs.Rest as rests
use Rattle.lexopt_options_spec.specs.Rest.{HaveNoRest, IsSplit, MeansBefore, before_rest, without_rest}
use Rattle.lexopt_options_spec.proofs.OneRest.{ended_alone, front_begins, last_open, mistaken, none_alone, one_rest, surplus_alone}
use Rattle.lexopt_options_spec.proofs.Rests.{Starts, front_read}
use Rattle.lexopt_options.specs.declared.parsed.Parsed.{Parsed}
use Rattle.lexopt_options.specs.declared.read.Ended.TheVariants as ended
use Rattle.lexopt_options.specs.declared.refused.Line.TheVariants as line
use Rattle.lexopt_options.specs.Reading.{HasEnded, HasRead}
use Rattle.lexopt_options.specs.RestStarts.{begins_here, is_separated, start_view}
use Rattle.lexopt_options.specs.RestLines.{IsEarly, IsRestOf, IsRestRead, by_all, by_front, early}
use Rattle.lexopt_options.proofs.Beginnings.{separated_view}
use Rattle.lexopt_options.proofs.Keys.{asked_here}
use Rattle.lexopt_options.proofs.WholeLines.{line_of}

pub no_length : {X : Type 0} (l : List X) → length l ≡ 0 → l ≡ []
no_length [] is = refl
no_length (x ∷ l) is = absurd (omega (arith, is))

-- what is read of words before a rest is read of a whole line
whole_read : {F V P M S : Type 0} (o : Options F V P M S) (begins : RestStart) (u v : UnreadLine) (count : ℕ) (seen : List ℕ) (parsed : List (Parsed F V P M S)) → HasRead o begins u v count seen parsed → HasRead o Surplus u v count seen parsed
whole_read o begins u v count seen parsed had = record {
  l = had.l;
  read = had.read;
  before = λ is. cc;
  none = had.none;
  are = had.are;
  counted = had.counted;
  are_seen = had.are_seen;
  firsts = had.firsts;
  accepted = had.accepted;
}

pub whole_end : {F V P M S : Type 0} (o : Options F V P M S) (begins : RestStart) (words : List (List ℕ)) (count : ℕ) (seen : List ℕ) (parsed : List (Parsed F V P M S)) (v : UnreadLine) → HasEnded o words begins count seen parsed ended.End v → HasEnded o words Surplus count seen parsed ended.End v
whole_end o begins words count seen parsed v (u, had, next) = (u, whole_read o begins (start (declaration_of o).short_equals words) u count seen parsed had, next)

-- a rest begins with the positional to which the reading comes, and the words before that are read to
-- their end
pub front_ended : {F V P M S : Type 0} (o : Options F V P M S) (begins : RestStart) (words : List (List ℕ)) (count : ℕ) (seen : List ℕ) (parsed : List (Parsed F V P M S)) (word : List ℕ) (v : UnreadLine) → begins_here begins v.ended ≡ true
    → HasEnded o words begins count seen parsed (ended.Positional word) v → (before : List (List ℕ)) × (after : UnreadLine) × IsSplit (start_view begins) (declaration_of o) words before word v.words × HasEnded o before Surplus count seen parsed ended.End after
front_ended o begins words count seen parsed word v here (u, had, next, full) =
    let r = front_read (start_view begins) (declaration_of o) o.sound words had.l u v word had.read (starts begins refl) next in
    (r.front, r.after, r.split, (r.there, record { l = had.l; read = r.read; before = λ is. cc; none = had.none; are = had.are; counted = had.counted; are_seen = had.are_seen; firsts = had.firsts; accepted = had.accepted }, r.ends))
  where
    starts : (b : RestStart) → begins ≡ b → Starts (start_view b) (declaration_of o) had.l u v
    starts Surplus is = subst (λ x. is_separated x v.ended ≡ false → most (declaration_of o).positionals ≡ Some count) is full refl ∙ ap (λ n. Some n) had.counted
    starts Separated is = (had.before is, subst (λ x. begins_here x v.ended ≡ true) is here)

-- with one positional too many, and no rest before it, the words have none
pub surplus_ended : {F V P M S : Type 0} (o : Options F V P M S) (begins : RestStart) (words : List (List ℕ)) (count : ℕ) (seen : List ℕ) (parsed : List (Parsed F V P M S)) (word : List ℕ) (v : UnreadLine) → begins_here begins v.ended ≡ false
    → HasEnded o words begins count seen parsed (ended.Positional word) v → HaveNoRest (start_view begins) (declaration_of o) words × HasEnded o words Surplus count seen parsed (ended.Positional word) v
surplus_ended o Surplus words count seen parsed word v none ended = absurd (false≢true (sym none))
surplus_ended o Separated words count seen parsed word v none (u, had, next, full) = (
  surplus_alone (declaration_of o) words had.l u v word had.read next none (full none ∙ ap (λ n. Some n) had.counted),
  (u, whole_read o Separated (start (declaration_of o).short_equals words) u count seen parsed had, next, λ _. full none),
)

-- words that are read to their end have no rest
pub none_ended : {F V P M S : Type 0} (o : Options F V P M S) (begins : RestStart) (words : List (List ℕ)) (count : ℕ) (seen : List ℕ) (parsed : List (Parsed F V P M S)) (v : UnreadLine) → HasEnded o words begins count seen parsed ended.End v
    → HaveNoRest (start_view begins) (declaration_of o) words
none_ended o begins words count seen parsed v (u, had, next) = ended_alone (declaration_of o) words had.l u v had.read (λ is. had.before (separated_view begins is)) next

-- ---- the result for the list and the rest that words mean

with_rest : {F V P M S : Type 0} (o : Options F V P M S) (l : List legal.Parsed) (rest others : List (List ℕ)) (read : Line F V P M S) → IsLineOf o l read → others ≡ rest → IsRestOf o l rest others read
with_rest o l rest others (line.Parsed parsed) is same = (is, same)
with_rest o l rest others read is same = is

-- an option that asks for something is read before the separator
asked_before : (d : Declaration) (words : List (List ℕ)) (asked : Asked) (is : AskFor d words asked) → is.there.ended ≡ false
asked_before d words asked is = last_open d (start d.short_equals words) is.there is.before is.parsed tt is.read (no_positional is.parsed is.asks)
  where
    no_positional : (s : legal.Parsed) → asked_by d.options s ≡ Some asked → counts s ≡ 0
    no_positional (legal.positional word) is = absurd (let e : None ≡ Some asked = is in cc)
    no_positional s is = refl

early_read : {F V P M S : Type 0} (o : Options F V P M S) (words : List (List ℕ)) (read : Line F V P M S) → IsEarly o words read → IsLineRead o words read
early_read o words (line.Parsed parsed) is = absurd is
early_read o words (line.Asked asked) is = is
early_read o words (line.Refused refused) is = is.0

early_of : {F V P M S : Type 0} {begins : rests.RestStart} (o : Options F V P M S) (words before : List (List ℕ)) (word : List ℕ) (more : List (List ℕ)) (l : List legal.Parsed) (read : Line F V P M S) → IsSplit begins (declaration_of o) words before word more → Means (declaration_of o) before l → IsEarly o words read
    → IsRestOf o l (word ∷ more) [] read
early_of o words before word more l (line.Parsed parsed) split means is = absurd is
early_of o words before word more l (line.Asked asked) split means is =
    let d = declaration_of o in
    let later = front_begins d words before word more split (is.before ++ is.parsed ∷ []) is.there is.read (λ _. asked_before d words (asked_view asked) is) in
    let same = says_once d before l split.l (front_says d before l means.whole.front) split.says in
    ap (first_asked d.options) (same ∙ later.1 ∙ append_assoc is.before (is.parsed ∷ []) later.0) ∙ asked_here d.options is.before later.0 is.parsed (asked_view asked) is.none_before is.asks
early_of o words before word more l (line.Refused refused) split means (is, of_option) =
    let d = declaration_of o in
    let same = says_once d before l split.l (front_says d before l means.whole.front) split.says in
    mistaken d words before word more split is.read is.stops.there is.why is.stops.read of_option is.stops.stops (λ index value _. subst (λ m. are_accepted d.options m ≡ true) same means.whole.accepted)

pub rest_of : {F V P M S : Type 0} {begins : rests.RestStart} (o : Options F V P M S) (words others : List (List ℕ)) (read : Line F V P M S) → IsRestRead begins o words others read → (l : List legal.Parsed) (rest : List (List ℕ)) → MeansBefore begins (declaration_of o) words l rest
    → IsRestOf o l rest others read
rest_of {begins = begins} o words (word ∷ more) read (by_front before word2 more2 read2 split is) l [] (without_rest alone means) = absurd (none_alone begins (declaration_of o) words l alone means.whole.front before word2 more2 split)
rest_of o words (word ∷ more) read (by_front before word2 more2 read2 split is) l (other ∷ others) (before_rest before3 word3 more3 split3 means) =
    let same = one_rest (declaration_of o) words before before3 word2 word3 more2 more3 split split3 in
    with_rest o l (word3 ∷ more3) (word2 ∷ more2) read2 (line_of o before read2 is l (subst (λ ws. Means (declaration_of o) ws l) (sym same.0) means)) same.1
rest_of o words [] read (by_all read2 none is) l [] (without_rest alone means) = with_rest o l [] [] read2 (line_of o words read2 is l means) refl
rest_of o words [] read (by_all read2 none is) l (other ∷ others) (before_rest before word more split means) = absurd (none before word more split)
rest_of o words [] read (early read2 is) l [] (without_rest alone means) = with_rest o l [] [] read2 (line_of o words read2 (early_read o words read2 is) l means) refl
rest_of o words [] read (early read2 is) l (other ∷ others) (before_rest before word more split means) = early_of o words before word more l read2 split means is
