-- Words that are read up to a place, and what the next word is there.
use Rattle.lexopt_options_spec.proofs.Common.{◌≡◌, ◌≢◌, ℕ, Bool, true, false, List, [], ◌∷◌, ◌++◌, Option, Some, None, refl, sym, ap, subst, ◌∙◌, arith, inl, option_map, false≢true, append-nil}
use Rattle.lexopt_options_spec.proofs.Common.{no_tail, UnreadLine, IsLine, IsPlain, IsNormalIn, pending, spelling, ValuesStep, Step, Item, Name, kind, ReadsFirst, first_positional, first_one}
use Rattle.lexopt_options_spec.proofs.Common.{first_several, option_reply, start, IsDue, one_more_item, step_line, Declaration, index_of, is_sound, table, IsWithin, Parsed, most, parsed_item}
use Rattle.lexopt_options_spec.proofs.Common.{positional_count, Leaves, LeadsNowhere, Says, leaves_anything, leaves_due, leaves_first, leaves_further, leaves_ended, state_at_end, Mistake, ReadsUpTo}
use Rattle.lexopt_options_spec.proofs.Common.{Stops, missing_value, no_value, not_declared, one_too_many, unexpected_argument, unexpected_value, unknown_option, value_of_flag, Reply, Next, NextStep}
use Rattle.lexopt_options_spec.proofs.Common.{no_word_left, reads_separator, next_word, nothing_to_take, none_tail}
use Rattle.lexopt_spec.specs.Steps as steps
use Rattle.lexopt_spec.specs.Runs as calls
use Rattle.lexopt_line_spec.specs.Table as spec
use Rattle.lexopt_line_spec.proofs.LastOption.{missing_names}
use Rattle.lexopt_options_spec.specs.Legal as legal
use Rattle.lexopt_options_spec.specs.States as states
use Rattle.lexopt_options_spec.proofs.Cuts.{ends_here, enough}
use Rattle.lexopt_options_spec.proofs.Fronts.{ComesTo, StopsEarly, no_front, nothing_read}
use Rattle.lexopt_options_spec.proofs.Growing.{longer, Calm, Grows, EndsSo, ended_before, open_there, separator_last, ends_so, adds_word, calm_before, first_taken, lack_more, no_option, not_normal_more, only_end, option_before_separator, option_more, step_more, takes_next}
use Rattle.lexopt_options_spec.proofs.Rests.{ReadsAs, one_more, says}
use Rattle.lexopt_options_spec.proofs.Lists.{joined}
use Rattle.lexopt_options_spec.proofs.Occurs.{dashes_calm}
use Rattle.lexopt_options_spec.proofs.OpenLines.{dashes}

-- an option of several values was read last, and one more plain word at the end of the line is one
-- more value of it
pub record Further (d : Declaration) (s : UnreadLine) (l : List Parsed) (i : ℕ) (u : UnreadLine) : Type 0 where
  pub before : List Parsed
  pub values : List (List ℕ)
  pub is : l ≡ before ++ legal.several i values ∷ []
  pub before_separator : u.ended ≡ false
  pub more : u.words ≡ [] → (p : List ℕ) → IsPlain false p → ReadsAs d (longer (p ∷ []) s) (before ++ legal.several i (values ++ p ∷ []) ∷ []) u

-- The line s is read up to the line u, and this is read, whatever words come at its end; but if the
-- option of several values at the index `going` was read last, plain words are more of them.
pub record Reached (d : Declaration) (s : UnreadLine) (l : List Parsed) (going : Option ℕ) (u : UnreadLine) : Type 0 where
  pub upto : ReadsUpTo d s l u
  pub calm : (tail : List (List ℕ)) → Calm u tail → ReadsAs d (longer tail s) l (longer tail u)
  pub closed : going ≡ None → (tail : List (List ℕ)) → ReadsAs d (longer tail s) l (longer tail u)
  pub opened : (i : ℕ) → going ≡ Some i → Further d s l i u

-- ---- one more item

pub nothing_reached : (d : Declaration) (s : UnreadLine) → IsLine s → Reached d s [] None s
nothing_reached d s line = record {
  upto = nothing_read d s line;
  calm = λ tail calm. record { items = []; reads = refl; parsed = refl };
  closed = λ none tail. record { items = []; reads = refl; parsed = refl };
  opened = λ i is. cc;
}

up_to : {d : Declaration} {s u w : UnreadLine} {l : List Parsed} {x : Item} {own : Parsed} → ReadsUpTo d s l u → ReadsFirst (table d.options) u x w → parsed_item d.options x ≡ Some own → IsLine w
    → IsWithin (positional_count (l ++ own ∷ [])) (most d.positionals) → ReadsUpTo d s (l ++ own ∷ []) w
up_to {d} {s} {u} {w} {l} {x} {own} read next is line within = record {
  items = read.items ++ x ∷ [];
  read = one_more_item (table d.options) s u w read.items x read.read next;
  line = line;
  parsed = joined (parsed_item d.options) read.items l x own read.parsed is;
  within = within;
}

pub closed_reached : (d : Declaration) (s u w : UnreadLine) (l : List Parsed) (o : Option ℕ) (x : Item) (own : Parsed) → Reached d s l o u → Grows (table d.options) u x false w → parsed_item d.options x ≡ Some own
    → IsLine w → IsWithin (positional_count (l ++ own ∷ [])) (most d.positionals) → Reached d s (l ++ own ∷ []) None w
closed_reached d s u w l o x own at grows is line within = record {
  upto = up_to at.upto grows.reads is line within;
  calm = λ tail calm. one_more (before tail) (grows.calm tail calm) is;
  closed = λ none tail. one_more (before tail) (grows.closed refl tail) is;
  opened = λ i same. cc;
}
  where
    before : (tail : List (List ℕ)) → ReadsAs d (longer tail s) l (longer tail u)
    before tail = at.calm tail (calm_before (table d.options) u w x grows.reads tail)

pub open_reached : (d : Declaration) (s u w : UnreadLine) (l : List Parsed) (o : Option ℕ) (name : Name) (index : ℕ) (values : List (List ℕ)) → Reached d s l o u → Grows (table d.options) u (spec.many name values) true w
    → index_of d.options name ≡ Some index → IsLine w → IsWithin (positional_count (l ++ legal.several index values ∷ [])) (most d.positionals) → Reached d s (l ++ legal.several index values ∷ []) (Some index) w
open_reached d s u w l o name index values at grows found line within = record {
  upto = up_to at.upto grows.reads (item_is values) line within;
  calm = λ tail calm. one_more (before tail) (grows.calm tail calm) (item_is values);
  closed = λ same tail. cc;
  opened = λ i same. subst (λ j. Further d s (l ++ legal.several index values ∷ []) j w) (index_is i same) further;
}
  where
    before : (tail : List (List ℕ)) → ReadsAs d (longer tail s) l (longer tail u)
    before tail = at.calm tail (calm_before (table d.options) u w (spec.many name values) grows.reads tail)

    index_is : (i : ℕ) → Some index ≡ Some i → index ≡ i
    index_is i same = cc

    item_is : (values : List (List ℕ)) → parsed_item d.options (spec.many name values) ≡ Some (legal.several index values)
    item_is values = ap (option_map (λ i. legal.several i values)) found

    further : Further d s (l ++ legal.several index values ∷ []) index w
    further =
        let there = grows.opened refl in
        record {
          before = l;
          values = values;
          is = refl;
          before_separator = there.before_separator;
          more = λ none p plain.
              one_more (before (p ∷ []))
              (subst (λ x. ReadsFirst (table d.options) (longer (p ∷ []) u) x w) (same_item there.name there.values p there.is) (there.more none p plain))
              (item_is (values ++ p ∷ []));
        }
      where
        same_item : (other : Name) (vs : List (List ℕ)) (p : List ℕ) → spec.many name values ≡ spec.many other vs → spec.many other (vs ++ p ∷ []) ≡ spec.many name (values ++ p ∷ [])
        same_item other vs p is =
            let a : name ≡ other = cc in
            let b : values ≡ vs = cc in
            ap (λ n. spec.many n (vs ++ p ∷ [])) (sym a) ∙ ap (λ ws. spec.many name (ws ++ p ∷ [])) (sym b)

-- ---- the end of the words

up_to_as : {d : Declaration} {s u : UnreadLine} {l : List Parsed} → ReadsUpTo d s l u → ReadsAs d s l u
up_to_as read = record { items = read.items; reads = read.read; parsed = read.parsed }

appended : (words tail : List (List ℕ)) → words ≡ [] → words ++ tail ≡ tail
appended words tail is = ap (λ l. l ++ tail) is

-- the words are read up to their end
pub end_leaves : (d : Declaration) (words : List (List ℕ)) (l : List Parsed) (o : Option ℕ) (u v : UnreadLine) → is_sound d.options ≡ true → Reached d (start d.short_equals words) l o u → Next u steps.end v → Leaves d words l (state_at_end o v.ended)
end_leaves d words l o u v sound at next = by (ends_so u v step)
  where
    step : NextStep u steps.end v
    step = enough NextStep u steps.end v next (λ no. cc)

    own : Says d words l
    own = says sound (up_to_as at.upto) step

    -- one more word is a positional
    adds : (p : List ℕ) → v.tail ≡ no_tail → v.words ≡ [] → EndsSo u v → (v.ended ≡ false → IsPlain false p) → ReadsAs d (longer (p ∷ []) (start d.short_equals words)) l (longer (p ∷ []) u) → Says d (words ++ p ∷ []) (l ++ legal.positional p ∷ [])
    adds p none empty so plain reads = says sound (one_more reads (first_positional p v (inl (adds_word u v p so plain))) refl) (ends_here v v.ended refl none empty)

    -- past the separator
    past : v ≡ record u { words = []; ended = true } → u.tail ≡ no_tail → EndsSo u v → ((p : List ℕ) → ReadsAs d (longer (p ∷ []) (start d.short_equals words)) l (longer (p ∷ []) u)) → Leaves d words l (state_at_end o v.ended)
    past after none so reads =
        let ended = ap (λ (x : UnreadLine). x.ended) after in
        subst (λ b. Leaves d words l (state_at_end o b)) (sym ended)
        (leaves_ended own (λ p. adds p (ap (λ (x : UnreadLine). x.tail) after ∙ none) (ap (λ (x : UnreadLine). x.words) after) so (λ is. absurd (false≢true (sym is ∙ ended))) (reads p)))

    -- before it
    before : v ≡ u → u.ended ≡ false → u.tail ≡ no_tail → u.words ≡ [] → EndsSo u v → (going : Option ℕ) → o ≡ going → Leaves d words l (state_at_end going false)
    before same not none empty so None is = leaves_anything
        (record { says = own; with_separator = separated (at.closed is (dashes ∷ [])) })
        (λ p plain. adds p (ap (λ (x : UnreadLine). x.tail) same ∙ none) (ap (λ (x : UnreadLine). x.words) same ∙ empty) so (λ same. plain) (at.closed is (p ∷ [])))
      where
        separated : ReadsAs d (start d.short_equals (words ++ dashes ∷ [])) l (longer (dashes ∷ []) u) → Says d (words ++ dashes ∷ []) l
        separated reads = says sound reads (next_word none not (reads_separator [] (appended u.words (dashes ∷ []) empty) (no_word_left refl refl refl)))
    before same not none empty so (Some i) is =
        let there = at.opened i is in
        leaves_further i there.before there.values there.is
        (record {
          says = own;
          with_separator = says sound (at.calm (dashes ∷ []) (λ no_words no_left. dashes_calm []))
              (next_word none not (reads_separator [] (appended u.words (dashes ∷ []) empty) (no_word_left refl refl refl)));
        })
        (λ p plain. says sound (there.more empty p plain) (ends_here u u.ended refl none empty))

    never_open : u.ended ≡ true → (going : Option ℕ) → o ≡ going → going ≡ None
    never_open ended None is = refl
    never_open ended (Some i) is = absurd (false≢true (sym (at.opened i is).before_separator ∙ ended))

    by : EndsSo u v → Leaves d words l (state_at_end o v.ended)
    by (ended_before none ended empty after) =
        past (after ∙ ap (λ (l : List (List ℕ)). record u { words = l }) empty ∙ ap (λ (b : Bool). record u { words = []; ended = b }) ended) none (ended_before none ended empty after) (λ p. at.closed (never_open ended o refl) (p ∷ []))
    by (open_there none not empty after) =
        subst (λ b. Leaves d words l (state_at_end o b)) (sym (ap (λ (x : UnreadLine). x.ended) after ∙ not)) (before after not none empty (open_there none not empty after) o refl)
    by (separator_last none not one after) =
        past after none (separator_last none not one after) (λ p. at.calm (p ∷ []) (λ no_words. absurd (let e : [] ≡ dashes ∷ [] = sym no_words ∙ one in cc)))

-- ---- a value that an option lacks

here : {d : Declaration} {words : List (List ℕ)} {u : UnreadLine} {l : List Parsed} {o : Option ℕ} {why : Mistake} → Reached d (start d.short_equals words) l o u → Stops d l u why → ComesTo d words l why
here {d} {words} {u} at stops = record { there = u; read = at.upto; stops = stops }

-- the same with more words
later : {d : Declaration} {words : List (List ℕ)} {u : UnreadLine} {l : List Parsed} {o : Option ℕ} {why : Mistake} (tail : List (List ℕ)) → Reached d (start d.short_equals words) l o u → Calm u tail → Stops d l (longer tail u) why
    → ComesTo d (words ++ tail) l why
later {d} {words} {u} tail at calm stops =
    let reads = at.calm tail calm in
    record { there = longer tail u; read = record { items = reads.items; read = reads.reads; line = at.upto.line; parsed = reads.parsed; within = at.upto.within }; stops = stops }

-- nothing that begins with these words is a line, since the reading stops here whatever comes after
pub leads_nowhere : (d : Declaration) (words : List (List ℕ)) (l : List Parsed) (o : Option ℕ) (u : UnreadLine) (why : Mistake) → StopsEarly why → Reached d (start d.short_equals words) l o u
    → ((tail : List (List ℕ)) → Calm u tail) → Stops d l u why → ((tail : List (List ℕ)) → Stops d l (longer tail u) why) → LeadsNowhere d words
leads_nowhere d words l o u why early at calm stops more = record {
  here = λ m means. no_front d words l why (here at stops) early m means;
  with_more = λ w m means. no_front d (words ++ w ∷ []) l why (later (w ∷ []) at (calm (w ∷ [])) (more (w ∷ []))) early m means;
}

calm_at_option : (u v : UnreadLine) (name : Name) → Next u (option_reply name) v → (tail : List (List ℕ)) → Calm u tail
calm_at_option u v name next tail none no_left = absurd (no_option u v name none no_left next)

calm_at : (u v : UnreadLine) (r : Reply) → r ≢ steps.end → NextStep u r v → (tail : List (List ℕ)) → Calm u tail
calm_at u v r other step tail none no_left = absurd (other (only_end u v r none no_left step))

pub undeclared_nowhere : (d : Declaration) (words : List (List ℕ)) (l : List Parsed) (o : Option ℕ) (u v : UnreadLine) (name : Name) → Reached d (start d.short_equals words) l o u → Next u (option_reply name) v
    → index_of d.options name ≡ None → LeadsNowhere d words
undeclared_nowhere d words l o u v name at next none =
    leads_nowhere d words l o u (unknown_option name v.tail) tt at (calm_at_option u v name next) (not_declared name v next none) (λ tail. not_declared name (longer tail v) (option_more u v name tail next) none)

-- the option lacks its value
lacks : (d : Declaration) (l : List Parsed) (u v w : UnreadLine) (name : Name) (index : ℕ) (call : calls.Call) → IsDue (kind (table d.options) name) call → Next u (option_reply name) v → index_of d.options name ≡ Some index
    → Step call v (steps.missing (spelling v.last)) w → (named : List ℕ) × Stops d l u (missing_value index named)
lacks d l u v w name index call due next found takes =
    let named = missing_names (kind (table d.options) name) call u v w name (spelling v.last) next due takes in
    (named.0, no_value name index named.0 call v w next found due (subst (λ o. Step call v (steps.missing o) w) named.1 takes))

several_due : (d : Declaration) (name : Name) (n : ℕ) → kind (table d.options) name ≡ spec.several → IsDue (kind (table d.options) name) (calls.values n)
several_due d name n k = subst (λ (x : spec.Kind). IsDue x (calls.values n)) (sym k) (n, refl)

-- it lacks its value at the end of the words
pub value_stops : (d : Declaration) (l : List Parsed) (u v : UnreadLine) (name : Name) (index : ℕ) → Next u (option_reply name) v → index_of d.options name ≡ Some index → kind (table d.options) name ≡ spec.one → pending v ≡ None
    → v.words ≡ [] → (named : List ℕ) × Stops d l u (missing_value index named)
value_stops d l u v name index next found k none empty =
    lacks d l u v v name index calls.value (subst (λ (x : spec.Kind). IsDue x calls.value) (sym k) refl) next found (inl (nothing_to_take none empty refl refl))

-- it lacks its values
pub values_stop : (d : Declaration) (l : List Parsed) (u v : UnreadLine) (name : Name) (index : ℕ) → Next u (option_reply name) v → index_of d.options name ≡ Some index → kind (table d.options) name ≡ spec.several → pending v ≡ None
    → ¬ IsNormalIn v.ended v.words → (named : List ℕ) × Stops d l u (missing_value index named)
values_stop d l u v name index next found k none normal =
    let lacking = lack_more v 1 [] none (subst (λ ws. ¬ IsNormalIn v.ended ws) (sym (append-nil v.words)) normal) in
    let same : longer [] v ≡ v = ap (λ ws. record v { words = ws }) (append-nil v.words) in
    lacks d l u v v name index (calls.values 1) (several_due d name 1 k) next found (inl (subst (λ x. ValuesStep 1 x (steps.missing (spelling v.last)) x) same lacking))

no_tail_left : (v : UnreadLine) → IsLine v → pending v ≡ None → v.tail ≡ no_tail
no_tail_left v line none = none_tail v.short_equals v.tail v.last v.ended line none

pub value_due : (d : Declaration) (words : List (List ℕ)) (l : List Parsed) (o : Option ℕ) (u v : UnreadLine) (name : Name) (index : ℕ) → is_sound d.options ≡ true → Reached d (start d.short_equals words) l o u
    → Next u (option_reply name) v → index_of d.options name ≡ Some index → kind (table d.options) name ≡ spec.one → pending v ≡ None → v.words ≡ [] → Leaves d words l (states.due index)
value_due d words l o u v name index sound at next found k none empty = leaves_due index
    (λ m means.
    let stops = value_stops d l u v name index next found k none empty in
    no_front d words l (missing_value index stops.0) (here at stops.1) tt m means)
    (λ p.
    says sound
    (one_more (at.calm (p ∷ []) (calm_at_option u v name next (p ∷ [])))
    (first_one name p (longer (p ∷ []) v) v k (option_more u v name (p ∷ []) next) (takes_next v p none empty)) (ap (option_map (λ i. legal.option i (Some p))) found))
    (ends_here v v.ended refl (no_tail_left v (step_line calls.next u (option_reply name) v at.upto.line next) none) empty))

pub first_due : (d : Declaration) (words : List (List ℕ)) (l : List Parsed) (o : Option ℕ) (u v : UnreadLine) (name : Name) (index : ℕ) → is_sound d.options ≡ true → Reached d (start d.short_equals words) l o u
    → Next u (option_reply name) v → index_of d.options name ≡ Some index → kind (table d.options) name ≡ spec.several → pending v ≡ None → v.words ≡ [] → Leaves d words l (states.first index)
first_due d words l o u v name index sound at next found k none empty = leaves_first index
    (λ m means.
    let stops = values_stop d l u v name index next found k none (subst (λ ws. ¬ IsNormalIn v.ended ws) (sym empty) (λ normal. normal)) in
    no_front d words l (missing_value index stops.0) (here at stops.1) tt m means)
    (λ p plain.
    says sound
    (one_more (at.calm (p ∷ []) (calm_at_option u v name next (p ∷ [])))
    (first_several name 2 (p ∷ []) (longer (p ∷ []) v) v k (option_more u v name (p ∷ []) next) (omega arith) (first_taken v p none empty before plain))
    (ap (option_map (λ i. legal.several i (p ∷ []))) found))
    (ends_here v v.ended refl (no_tail_left v (step_line calls.next u (option_reply name) v at.upto.line next) none) empty))
    (λ p m other means.
    let normal : ¬ IsNormalIn v.ended (v.words ++ p ∷ []) = subst (λ ws. ¬ IsNormalIn v.ended ws) (sym (appended v.words (p ∷ []) empty)) (subst (λ b. ¬ IsPlain b p) (sym before) other) in
    let stops = lacks d l (longer (p ∷ []) u) (longer (p ∷ []) v) (longer (p ∷ []) v) name index (calls.values 1) (several_due d name 1 k) (option_more u v name (p ∷ []) next) found (inl (lack_more v 1 (p ∷ []) none normal)) in
    no_front d (words ++ p ∷ []) l (missing_value index stops.0) (later (p ∷ []) at (calm_at_option u v name next (p ∷ [])) stops.1) tt m means)
  where
    before : v.ended ≡ false
    before = option_before_separator u v name at.upto.line next

pub values_nowhere : (d : Declaration) (words : List (List ℕ)) (l : List Parsed) (o : Option ℕ) (u v : UnreadLine) (name : Name) (index : ℕ) → Reached d (start d.short_equals words) l o u
    → Next u (option_reply name) v → index_of d.options name ≡ Some index → kind (table d.options) name ≡ spec.several → pending v ≡ None → ¬ IsNormalIn v.ended v.words → v.words ≢ [] → LeadsNowhere d words
values_nowhere d words l o u v name index at next found k none normal some = record {
  here = λ m means.
      let stops = values_stop d l u v name index next found k none normal in
      no_front d words l (missing_value index stops.0) (here at stops.1) tt m means;
  with_more = λ p m means.
      let stops = lacks d l (longer (p ∷ []) u) (longer (p ∷ []) v) (longer (p ∷ []) v) name index (calls.values 1) (several_due d name 1 k) (option_more u v name (p ∷ []) next) found
      (inl (lack_more v 1 (p ∷ []) none (not_normal_more v.ended v.words (p ∷ []) (λ empty. absurd (some empty)) normal))) in
      no_front d (words ++ p ∷ []) l (missing_value index stops.0) (later (p ∷ []) at (calm_at_option u v name next (p ∷ [])) stops.1) tt m means;
}

-- ---- a mistake before the end

pub unexpected_nowhere : (d : Declaration) (words : List (List ℕ)) (l : List Parsed) (o : Option ℕ) (u v : UnreadLine) (option value : List ℕ) → Reached d (start d.short_equals words) l o u
    → Next u (steps.unexpected option value) v → LeadsNowhere d words
unexpected_nowhere d words l o u v option value at next =
    let step = enough NextStep u (steps.unexpected option value) v next (λ none. cc) in
    leads_nowhere d words l o u (unexpected_value option value) tt at (calm_at u v (steps.unexpected option value) (λ is. cc) step) (value_of_flag option value v next)
    (λ tail. value_of_flag option value (longer tail v) (inl (step_more u v (steps.unexpected option value) tail (λ is. cc) step)))

pub surplus_nowhere : (d : Declaration) (words : List (List ℕ)) (l : List Parsed) (o : Option ℕ) (u v : UnreadLine) (word : List ℕ) → Reached d (start d.short_equals words) l o u → Next u (steps.positional word) v
    → most d.positionals ≡ Some (positional_count l) → LeadsNowhere d words
surplus_nowhere d words l o u v word at next full =
    let step = enough NextStep u (steps.positional word) v next (λ none. cc) in
    leads_nowhere d words l o u (unexpected_argument word) tt at (calm_at u v (steps.positional word) (λ is. cc) step) (one_too_many word v next full)
    (λ tail. one_too_many word (longer tail v) (inl (step_more u v (steps.positional word) tail (λ is. cc) step)) full)
