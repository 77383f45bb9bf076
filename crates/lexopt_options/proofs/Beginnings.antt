-- Words that are read as the beginning of a line, and where their rest begins.
use Rattle.lexopt_options.proofs.Common.{◌≡◌, ◌↔◌, IsTrue, ℕ, Bool, true, false, arith, length, List, [], ◌∷◌, ◌++◌, Option, Some, None, refl, sym, ap, subst, ◌∙◌, IsNormalIn, IsPlain, UnreadLine}
use Rattle.lexopt_options.proofs.Common.{dash, pending, pending_in, Next, NextStep, option_reply, start, Name, Declaration, index_of, is_sound, IsWithin, MeansFront, Parsed, most, positional_count}
use Rattle.lexopt_options.proofs.Common.{LeadsNowhere, Leaves, Says, leaves_anything, leaves_due, leaves_first, leaves_further, leaves_ended, state_at_end, takes_positional, IsOfOption, Mistake}
use Rattle.lexopt_options.proofs.Common.{ReadsUpTo, Stops, invalid_value, missing_value, not_declared, unexpected_value, unknown_option, value_of_flag, false≢true, same_last, front_says, says_front}
use Rattle.lexopt_options.proofs.Common.{says_once, words_count, ◌≤◌, enough, whole_front, is_separated, start_view, RestStart, Separated, Surplus, UndeclaredNext, IsAfterName, IsFront, IsFrontOf}
use Rattle.lexopt_options.proofs.Common.{state_view, Front, State}
use Rattle.lexopt_spec.specs.Steps as steps
use Rattle.lexopt_line_spec.specs.Table as table
use Rattle.lexopt_options_spec.specs.Legal as legal
use Rattle.lexopt_options_spec.specs.Rest.{EndsSeparated, IsSplit, separated, surplus}
use Rattle.lexopt_options_spec.specs.Rest as rests
use Rattle.lexopt_options_spec.specs.States as spec
use Rattle.lexopt_options_spec.proofs.Growing.{EndsSo, ended_before, ends_so, open_there, separator_last}
use Rattle.lexopt_options_spec.proofs.OneRest.{ended_alone, mistaken, separator_left, surplus_alone}
use Rattle.lexopt_options_spec.proofs.Reached.{surplus_nowhere, undeclared_nowhere, unexpected_nowhere, value_stops, values_nowhere, values_stop}
use Rattle.lexopt_options_spec.proofs.Rests.{before_here, front_read, word_read}
use Rattle.lexopt_options.specs.Begun.{IsBegun, TellsEnd, TellsRest, TellsSeparator, is_ended, surplus_begun}
use Rattle.lexopt_options.specs.declared.front.Begun.TheVariants as begun
use Rattle.lexopt_options.specs.declared.front.AfterName.TheVariants as after
use Rattle.lexopt_options.specs.declared.front.State.TheVariants as state
use Rattle.lexopt_options.proofs.Fronts.{HasReached, counted, front_at_end, front_lacking}
use Rattle.lexopt_options.proofs.ReadNext.{kind_of_index}

-- after a positional no value is pending
pub nothing_pending : (u w : UnreadLine) (word : List ℕ) → Next u (steps.positional word) w → pending w ≡ None
nothing_pending u w word next = ap (pending_in w.short_equals) (word_read u w word (enough NextStep u (steps.positional word) w next (λ is. cc))).none

-- a rest begins with a positional that the separator is before
pub separated_begun : {seen : List ℕ} (begins : RestStart) (d : Declaration) (u v : UnreadLine) (words own : List (List ℕ)) (word : List ℕ) (accepted : Bool) (last : Option (ℕ × List ℕ)) (going : Option ℕ) → is_sound d.options ≡ true
    → HasReached d (start d.short_equals words) u own accepted last going seen → (begins ≡ Separated → u.ended ≡ false) → Next u (steps.positional word) v → is_separated begins v.ended ≡ true → IsBegun (start_view begins) d words (begun.Rest word) v
separated_begun Surplus d u v words own word accepted last going sound has not next is = absurd (false≢true is)
separated_begun Separated d u v words own word accepted last going sound has not next is =
    let read = front_read separated d sound words has.l u v word has.at.upto (not refl, is) next in ((λ same. cc), nothing_pending u v word next, (read.front, read.split))

-- one positional too many
pub rest_begun : {seen : List ℕ} (begins : RestStart) (d : Declaration) (u v : UnreadLine) (words own : List (List ℕ)) (word : List ℕ) (accepted : Bool) (last : Option (ℕ × List ℕ)) (going : Option ℕ) → is_sound d.options ≡ true
    → HasReached d (start d.short_equals words) u own accepted last going seen → Next u (steps.positional word) v → is_separated begins v.ended ≡ false → most d.positionals ≡ Some (length own) → IsBegun (start_view begins) d words (surplus_begun begins word) v
rest_begun Surplus d u v words own word accepted last going sound has next none full =
    let full_is = full ∙ ap (λ n. Some n) (sym (counted has)) in
    let read = front_read surplus d sound words has.l u v word has.at.upto full_is next in ((λ _. surplus_nowhere d words has.l going u v word has.at next full_is), nothing_pending u v word next, (read.front, read.split))
rest_begun Separated d u v words own word accepted last going sound has next none full =
    let full_is = full ∙ ap (λ n. Some n) (sym (counted has)) in
    (surplus_nowhere d words has.l going u v word has.at next full_is, surplus_alone d words has.l u v word has.at.upto next none full_is, λ _. tt)

-- an option has this mistake
stops_begun : {begins : rests.RestStart} {d : Declaration} {u : UnreadLine} {own : List (List ℕ)} {accepted : Bool} {last : Option (ℕ × List ℕ)} {going : Option ℕ} {seen : List ℕ} (v : UnreadLine) (words : List (List ℕ)) (found : Option Front) (has : HasReached d (start d.short_equals words) u own accepted last going seen) → IsFrontOf d words found
    → TellsEnd d words found → (why : Mistake) → IsOfOption why → Stops d has.l u why → ((index : ℕ) (value : List ℕ) → why ≡ invalid_value index value → ⊥) → IsBegun begins d words (begun.Front found) v
stops_begun {begins} {d} {u} v words found has is tells why of_option stops never =
    (is, (λ before word more part. mistaken d words before word more part has.l u why has.at.upto of_option stops (λ index value same. absurd (never index value same))), λ _. tells)

pub undeclared_begun : {begins : rests.RestStart} {seen : List ℕ} (d : Declaration) (u v : UnreadLine) (words own : List (List ℕ)) (accepted : Bool) (last : Option (ℕ × List ℕ)) (going : Option ℕ) (short : Option ℕ)
    → HasReached d (start d.short_equals words) u own accepted last going seen → UndeclaredNext d u short v → IsBegun begins d words (begun.Front None) v
undeclared_begun d u v words own accepted last going (Some c) has next =
    stops_begun v words None has (undeclared_nowhere d words has.l going u v (table.short c) has.at next.0 next.1) tt (unknown_option (table.short c) v.tail) tt (not_declared (table.short c) v next.0 next.1) (λ index value same. cc)
undeclared_begun d u v words own accepted last going None has next =
    stops_begun v words None has (undeclared_nowhere d words has.l going u v (table.long next.0) has.at next.2 next.3) tt (unknown_option (table.long next.0) v.tail) tt (not_declared (table.long next.0) v next.2 next.3) (λ index value same. cc)

pub unexpected_begun : {begins : rests.RestStart} {seen : List ℕ} (d : Declaration) (u v : UnreadLine) (words own : List (List ℕ)) (accepted : Bool) (last : Option (ℕ × List ℕ)) (going : Option ℕ) (option value : List ℕ)
    → HasReached d (start d.short_equals words) u own accepted last going seen → Next u (steps.unexpected option value) v → IsBegun begins d words (begun.Front None) v
unexpected_begun d u v words own accepted last going option value has next =
    stops_begun v words None has (unexpected_nowhere d words has.l going u v option value has.at next) tt (unexpected_value option value) tt (value_of_flag option value v next) (λ index given same. cc)

-- an option lacks its value
lacking_stops : (d : Declaration) (u v w : UnreadLine) (name : Name) (index : ℕ) (lacks : State) → is_sound d.options ≡ true → Next u (option_reply name) v → index_of d.options name ≡ Some index → IsAfterName d index v (after.Lacks lacks) w
    → (l : List Parsed) → (named : List ℕ) × Stops d l u (missing_value index named)
lacking_stops d u v w name index (state.Due i) sound next found (same, k, none, empty) l = value_stops d l u v name index next found (sym (kind_of_index d.options name index sound found) ∙ k) none empty
lacking_stops d u v w name index (state.First i) sound next found (same, k, none, empty) l =
    values_stop d l u v name index next found (sym (kind_of_index d.options name index sound found) ∙ k) none (subst (λ ws. ¬ IsNormalIn v.ended ws) (sym empty) (λ normal. normal))
lacking_stops d u v w name index other sound next found lacks l = absurd lacks

-- a separator that ends them would end a front
ends_front : (d : Declaration) (words : List (List ℕ)) (l : List Parsed) → Says d words l → EndsSeparated d words l → MeansFront d words l
ends_front d words l says ends = says_front d words l says ends.within

-- words after which a value is due mean nothing as a front
lacking_tells : (d : Declaration) (index : ℕ) (w v : UnreadLine) (words : List (List ℕ)) (front : Front) → IsFront d words front → (lacks : State) → front.state ≡ lacks → IsAfterName d index v (after.Lacks lacks) w → TellsSeparator d words (is_ended front.state)
lacking_tells d index w v words front is lacks same given = subst (λ s. TellsSeparator d words (is_ended s)) (sym same) (by lacks given (subst (λ s. Leaves d words is.l (state_view s)) same is.leaves))
  where
    by : (lacks : State) → IsAfterName d index v (after.Lacks lacks) w → Leaves d words is.l (state_view lacks) → TellsSeparator d words (is_ended lacks)
    by (state.Due i) given (leaves_due j none more) = λ l says ends. none l (ends_front d words l says ends)
    by (state.First i) given (leaves_first j none more nor) = λ l says ends. none l (ends_front d words l says ends)
    by other given leaves = absurd given

pub lacking_begun : {begins : rests.RestStart} (d : Declaration) (u v w : UnreadLine) (words : List (List ℕ)) (front : Front) (last : Option (ℕ × List ℕ)) (going : Option ℕ) (name : Name) (index : ℕ) → is_sound d.options ≡ true
    → HasReached d (start d.short_equals words) u front.words.items front.accepted last going front.seen.items → front.last ≡ None → Next u (option_reply name) v → index_of d.options name ≡ Some index → IsAfterName d index v (after.Lacks front.state) w
    → IsBegun begins d words (begun.Front (Some front)) w
lacking_begun d u v w words front last going name index sound has no_last next found lacks =
    let stopped = lacking_stops d u v w name index front.state sound next found lacks has.l in
    let is = front_lacking d u v w words front last going name index sound has no_last next found front.state refl lacks in
    stops_begun w words (Some front) has is (lacking_tells d index w v words front is front.state refl lacks) (missing_value index stopped.0) tt stopped.1 (λ i value same. cc)

pub missing_begun : {begins : rests.RestStart} {seen : List ℕ} (d : Declaration) (u v w : UnreadLine) (words own : List (List ℕ)) (accepted : Bool) (last : Option (ℕ × List ℕ)) (going : Option ℕ) (name : Name) (index : ℕ) → is_sound d.options ≡ true
    → HasReached d (start d.short_equals words) u own accepted last going seen → Next u (option_reply name) v → index_of d.options name ≡ Some index → IsAfterName d index v after.Missing w → IsBegun begins d words (begun.Front None) w
missing_begun d u v w words own accepted last going name index sound has next found (k, none, some, normal) =
    let kind_so = sym (kind_of_index d.options name index sound found) ∙ k in
    let stopped = values_stop d has.l u v name index next found kind_so none normal in
    stops_begun w words None has (values_nowhere d words has.l going u v name index has.at next found kind_so none normal some) tt (missing_value index stopped.0) tt stopped.1 (λ i value same. cc)

-- the separator is the last of words that are read to their end, if it was read last
tells_end : (d : Declaration) (words : List (List ℕ)) (l : List Parsed) (u v : UnreadLine) → is_sound d.options ≡ true → ReadsUpTo d (start d.short_equals words) l u → u.ended ≡ false → Next u steps.end v → (ended : Bool) → ended ≡ v.ended → TellsSeparator d words ended
tells_end d words l u v sound read not next ended is = by (ends_so u v (enough NextStep u steps.end v next (λ none. cc))) ended is
  where
    by : EndsSo u v → (ended : Bool) → ended ≡ v.ended → TellsSeparator d words ended
    by (ended_before none over empty after) ended is = absurd (false≢true (sym not ∙ over))
    by (open_there none before empty after) true is = absurd (false≢true (sym not ∙ ap (λ (x : UnreadLine). x.ended) (sym after) ∙ sym is))
    by (open_there none before empty after) false is = λ m says ends. let e = sym empty ∙ separator_left d words m l u v says ends read next in let f : [] ≡ (dash ∷ dash ∷ []) ∷ [] = e in cc
    by (separator_last none before one after) false is = absurd (false≢true (is ∙ ap (λ (x : UnreadLine). x.ended) after))
    by (separator_last none before one after) true is =
        let own = before_here d sound words l u read none in
        (l, front_says d words l (whole_front d words l u v sound read next), record { before = own.0; words_are = own.1 ∙ ap (λ ws. own.0 ++ ws) one; says = own.2; within = read.within })

ended_is : (s : State) (going : Option ℕ) (ended : Bool) → state_view s ≡ state_at_end going ended → is_ended s ≡ ended
ended_is state.Ended going true is = refl
ended_is state.Ended None false is = cc
ended_is state.Ended (Some i) false is = cc
ended_is s going true is = cc
ended_is s going false is = cc

pub separated_view : (begins : RestStart) → start_view begins ≡ separated → begins ≡ Separated
separated_view Surplus is = absurd (let e : surplus ≡ separated = is in cc)
separated_view Separated is = refl

-- the words are read to their end
pub end_begun : (begins : RestStart) (d : Declaration) (u v : UnreadLine) (words : List (List ℕ)) (found : Front) (going : Option ℕ) → is_sound d.options ≡ true
    → HasReached d (start d.short_equals words) u found.words.items found.accepted found.last going found.seen.items → (begins ≡ Separated → u.ended ≡ false) → Next u steps.end v → state_view found.state ≡ state_at_end going v.ended → IsBegun (start_view begins) d words (begun.Front (Some found)) v
end_begun begins d u v words found going sound has not next state_is = (
  front_at_end d u v words found going sound has next state_is,
  ended_alone d words has.l u v has.at.upto (λ is. not (separated_view begins is)) next,
  λ is. tells_end d words has.l u v sound has.at.upto (not (separated_view begins is)) next (is_ended found.state) (ended_is found.state going v.ended state_is),
)

-- ---- where a rest can begin

-- a plain word begins the rest if it is a positional in this state, and one too many
rest_follows : (d : Declaration) (words : List (List ℕ)) (found : Front) → IsFront d words found → takes_positional (state_view found.state) ≡ true → most d.positionals ≡ Some (length found.words.items) → TellsRest surplus d words true
rest_follows d words found is takes full = λ word plain. by word plain is.l (state_view found.state) is.leaves takes (full ∙ ap (λ ws. Some (length ws)) (sym is.words_are) ∙ ap (λ n. Some n) (words_count is.l))
  where
    split : (word : List ℕ) (l : List Parsed) → Says d words l → Says d (words ++ word ∷ []) (l ++ legal.positional word ∷ []) → most d.positionals ≡ Some (positional_count l) → IsSplit surplus d (words ++ word ∷ []) words word []
    split word l says more full = record { words_are = refl; l = l; says = says; here = full; begins = more }

    by : (word : List ℕ) → IsPlain false word → (l : List Parsed) (s : spec.State) → Leaves d words l s → takes_positional s ≡ true → most d.positionals ≡ Some (positional_count l) → IsSplit surplus d (words ++ word ∷ []) words word []
    by word plain l spec.anything (leaves_anything says more) takes full = split word l says.says (more word plain) full
    by word plain l spec.ended (leaves_ended says more) takes full = split word l says (more word) full
    by word plain l s leaves takes full = absurd (false≢true takes)

-- the words before it mean something
split_front : (begins : rests.RestStart) (d : Declaration) (words front more : List (List ℕ)) (word : List ℕ) (part : IsSplit begins d words front word more) → MeansFront d front part.l
split_front surplus d words front more word part =
    let enough : positional_count part.l ≤ positional_count part.l = omega arith in
    says_front d front part.l part.says (subst (IsWithin (positional_count part.l)) (sym part.here) enough)
split_front separated d words front more word part = says_front d front part.l part.says part.here.within

-- no plain word begins it otherwise
pub no_rest_follows : (d : Declaration) (words : List (List ℕ)) (found : Front) → IsFront d words found → (takes_positional (state_view found.state) ≡ true → most d.positionals ≡ Some (length found.words.items) → ⊥) → TellsRest surplus d words false
no_rest_follows d words found is never = λ word plain part.
    by word plain part is.l (state_view found.state) is.leaves (λ takes full. never takes (full ∙ ap (λ n. Some n) (sym (words_count is.l) ∙ ap length is.words_are)))
  where
    same : (word : List ℕ) (part : IsSplit surplus d (words ++ word ∷ []) words word []) (l : List Parsed) → Says d words l → most d.positionals ≡ Some (positional_count l)
    same word part l says = part.here ∙ ap (λ m. Some (positional_count m)) (says_once d words part.l l part.says says)

    by : (word : List ℕ) → IsPlain false word → (part : IsSplit surplus d (words ++ word ∷ []) words word []) → (l : List Parsed) (s : spec.State) → Leaves d words l s → (takes_positional s ≡ true → most d.positionals ≡ Some (positional_count l) → ⊥) → ⊥
    by word plain part l spec.anything (leaves_anything says more) never = never refl (same word part l says.says)
    by word plain part l spec.ended (leaves_ended says more) never = never refl (same word part l says)
    by word plain part l (spec.due i) (leaves_due j none more) never = none part.l (split_front surplus d (words ++ word ∷ []) words [] word part)
    by word plain part l (spec.first i) (leaves_first j none more nor) never = none part.l (split_front surplus d (words ++ word ∷ []) words [] word part)
    by word plain part l (spec.further i) (leaves_further j before values are says more) never =
        let one = says_once d (words ++ word ∷ []) (part.l ++ legal.positional word ∷ []) (before ++ legal.several i (values ++ word ∷ []) ∷ []) part.begins (more word plain) in
        let e = (same_last part.l before (legal.positional word) (legal.several i (values ++ word ∷ [])) one).1 in cc

-- the same by what calls return
pub follows_by : (d : Declaration) (words : List (List ℕ)) (found : Front) (b : Bool) (limit : Option ℕ) (count : ℕ) → IsFront d words found → takes_positional (state_view found.state) ≡ true → limit ≡ most d.positionals → count ≡ length found.words.items → (IsTrue b ↔ (limit ≡ Some count)) → TellsRest surplus d words b
follows_by d words found true limit count is takes limit_is count_is holds = rest_follows d words found is takes (sym limit_is ∙ holds.0 refl ∙ ap (λ n. Some n) count_is)
follows_by d words found false limit count is takes limit_is count_is holds = no_rest_follows d words found is (λ takes full. false≢true (holds.1 (limit_is ∙ full ∙ ap (λ n. Some n) (sym count_is))))

pub nowhere_follows : (begins : rests.RestStart) (d : Declaration) (words : List (List ℕ)) → LeadsNowhere d words → TellsRest begins d words false
nowhere_follows begins d words nowhere = λ word plain part. nowhere.here part.l (split_front begins d (words ++ word ∷ []) words [] word part)

-- after the separator any word begins the rest
pub separator_follows : (d : Declaration) (words : List (List ℕ)) (found : Front) → IsFront d words found → TellsSeparator d words (is_ended found.state) → TellsRest separated d words (is_ended found.state)
separator_follows d words found is = by found.state (subst (λ s. Leaves d words is.l s) refl is.leaves)
  where
    by : (s : State) → Leaves d words is.l (state_view s) → TellsSeparator d words (is_ended s) → TellsRest separated d words (is_ended s)
    by state.Ended (leaves_ended says more) (l, own, ends) = λ word plain. record { words_are = refl; l = l; says = own; here = ends; begins = subst (λ m. Says d (words ++ word ∷ []) (m ++ legal.positional word ∷ [])) (says_once d words is.l l says own) (more word) }
    by s leaves none = λ word plain part. none part.l part.says part.here
