-- Words as the beginning of a line: what they mean, and what the next word is.
use Rattle.lexopt_options.proofs.Common.{◌≡◌, ◌≢◌, ◌↔◌, ◌<◌, ◌+◌, ◌&&◌, ◌⊎◌, ℕ, Bool, IsTrue, true, false, not, is_none, position, get_or, slice_get, string_bytes, unwrap_or, List, [], ◌∷◌, ◌++◌, map}
use Rattle.lexopt_options.proofs.Common.{length, Option, Some, None, option_map, refl, sym, ap, subst, ◌∙◌, inl, inr, arith, Result, Ok, Err, IfOk, IsUtf8, false≢true, dash, BeginsWith, IsLine}
use Rattle.lexopt_options.proofs.Common.{IsNormalIn, UnreadLine, pending, Next, OptionalStep, Value, Kind, Name, Values, at_most_one, all, ReadsValues, ValuesEndBy, item_with, option_reply, start}
use Rattle.lexopt_options.proofs.Common.{refusal_reply, take_reply, kind_of, option_view, words_view, CanBeTaken, HasRole, IsJoined, IsOpen, IsOption, JoinsValue, value_of, Declaration, index_of}
use Rattle.lexopt_options.proofs.Common.{is_sound, IsWithin, MeansFront, Parsed, accepts_at, are_accepted, counts, most, positional_count, positional_words, refused_value, LeadsNowhere, Leaves, Says}
use Rattle.lexopt_options.proofs.Common.{leaves_anything, leaves_due, leaves_first, leaves_further, leaves_ended, role_in, state_at_end, not_empty, same_last, count_append, words_append, words_count}
use Rattle.lexopt_options.proofs.Common.{append-nil, Bor, ValuesStep, Step, bound, step_line, Refusal, one_front, enough, CanCome, Opens, kind_at, ReadsParsed, parsed_with, Front, State}
use Rattle.std.proofs.Math.Bool.{and-true}
use Rattle.std.proofs.lemmas.List.Folds.{list_all-append}
use Rattle.lexopt_spec.specs.Steps as steps
use Rattle.lexopt_spec.specs.Runs as calls
use Rattle.lexopt_line_spec.specs.Table as table
use Rattle.lexopt_base.specs.Pending.{is_joined}
use Rattle.lexopt_base.specs.declared.refusal.Refusal.TheVariants.{MissingValue, OutOfMemory, UnexpectedValue}
use Rattle.lexopt_declaration.specs.declared.declaration.Declared as rust
use Rattle.lexopt_declaration.specs.declared.declaration.Kind as rust_kind
use Rattle.lexopt_declaration.specs.declared.declaration.Kind.TheVariants as rust_kinds
use Rattle.lexopt_options_spec.specs.Declaration as declared
use Rattle.lexopt_options_spec.specs.Legal as legal
use Rattle.lexopt_options_spec.specs.States as spec
use Rattle.lexopt_options_spec.proofs.Growing.{Grows, grows_flag, grows_one, grows_optional, grows_positional, grows_several, values_lack}
use Rattle.lexopt_options_spec.proofs.Reached.{Reached, closed_reached, end_leaves, first_due, nothing_reached, open_reached, value_due}
use Rattle.lexopt_options_spec.proofs.States.{front_says, says_front, never_open, nowhere_open, open_there, role_there, says_once}
use Rattle.lexopt_options.specs.Reading.{AreSeen, is_noted_at, noted}
use Rattle.lexopt_options.specs.States.{IsFront, IsAfterName, IsLast, can_go_on, first_of, index_if, state_view, with_index}
use Rattle.lexopt_options.specs.declared.front.AfterName.{AfterName}
use Rattle.lexopt_options.specs.declared.front.AfterName.TheVariants as after
use Rattle.lexopt_options.specs.declared.front.State.TheVariants as state
use Rattle.lexopt_options.proofs.Accepted.{at_place, first_refused, first_there, none_cond, view_there}
use Rattle.lexopt_options.proofs.Keys.{found_within}
use Rattle.lexopt_options.proofs.NoValue.{unexpected_never}
use Rattle.lexopt_options.proofs.ReadKeys.{before_separator, option_with, seen_more, seen_same}
use Rattle.lexopt_options.proofs.ReadNext.{kind_of_index, more_within, no_count, option_item, option_parsed}

-- ---- what was read last

-- what is read last is an option with this index and this first value; or it has no value
abbrev pub IsReadLast : List Parsed → Option (ℕ × List ℕ) → Type 0
IsReadLast l None = (others : List Parsed) (last : Parsed) → l ≡ others ++ last ∷ [] → value_of last ≡ None
IsReadLast l (Some found) = (others : List Parsed) × (last : Parsed) × (l ≡ others ++ last ∷ []) × IsOption found.0 last × (value_of last ≡ Some found.1)

read_last : (l : List Parsed) (index : ℕ) (s : Parsed) (value : Option (List ℕ)) → IsOption index s → value_of s ≡ value → IsReadLast (l ++ s ∷ []) (with_index index value)
read_last l index s None is has = λ others last are. ap value_of (sym (same_last l others s last are).1) ∙ has
read_last l index s (Some v) is has = (l, s, refl, is, has)

-- ---- the loop

-- The line s is read up to the line u: these positionals, and options, which all accept their values
-- if `accepted` is true, and those that are noted; what was read last; and the option of several
-- values that goes on.
pub record HasReached (d : Declaration) (s u : UnreadLine) (words : List (List ℕ)) (accepted : Bool) (last : Option (ℕ × List ℕ)) (going : Option ℕ) (seen : List ℕ) : Type 0 where
  pub l : List Parsed
  pub at : Reached d s l going u
  pub words_are : positional_words l ≡ words
  pub accepted_is : are_accepted d.options l ≡ accepted
  pub are_seen : AreSeen d.options l seen
  pub last_is : IsReadLast l last

pub counted : {d : Declaration} {s u : UnreadLine} {words : List (List ℕ)} {accepted : Bool} {last : Option (ℕ × List ℕ)} {going : Option ℕ} {seen : List ℕ} (has : HasReached d s u words accepted last going seen) → positional_count has.l ≡ length words
counted has = sym (words_count has.l) ∙ ap length has.words_are

pub has_nothing : (d : Declaration) (s : UnreadLine) (words : List (List ℕ)) (seen : List ℕ) → IsLine s → words ≡ [] → seen ≡ [] → HasReached d s s words true None None seen
has_nothing d s words seen line none none_seen = record {
  l = [];
  at = nothing_reached d s line;
  words_are = sym none;
  accepted_is = refl;
  are_seen = subst (AreSeen d.options []) (sym none_seen) (λ i needed. refl);
  last_is = λ others last are. absurd (not_empty others [] last (sym are));
}

accepted_more : (options : List _) (l : List Parsed) (s : Parsed) → are_accepted options (l ++ s ∷ []) ≡ (are_accepted options l && is_none (refused_value options s))
accepted_more options l s = list_all-append (λ x. is_none (refused_value options x)) l (s ∷ []) ∙ ap (λ b. are_accepted options l && b) (and-true (is_none (refused_value options s)))

pub has_positional : (d : Declaration) (s u v : UnreadLine) (words more : List (List ℕ)) (word : List ℕ) (accepted : Bool) (last : Option (ℕ × List ℕ)) (going limit : Option ℕ) {seen : List ℕ} → HasReached d s u words accepted last going seen
    → Next u (steps.positional word) v → limit ≡ most d.positionals → limit ≢ Some (length words) → more ≡ words ++ word ∷ [] → HasReached d s v more accepted None None seen
has_positional d s u v words more word accepted last going limit {seen} has next limit_is room more_is =
    let own = legal.positional word in
    let count : positional_count (has.l ++ own ∷ []) ≡ positional_count has.l + 1 = count_append has.l (own ∷ []) in
    record {
      l = has.l ++ own ∷ [];
      at = closed_reached d s u v has.l going (table.positional word) own has.at (grows_positional _ u v word next) refl (step_line calls.next u (steps.positional word) v has.at.upto.line next)
          (subst (λ n. IsWithin n (most d.positionals)) (sym count)
          (more_within (positional_count has.l) (most d.positionals) (λ full. room (limit_is ∙ full ∙ ap (λ n. Some n) (counted has))) has.at.upto.within));
      words_are = words_append has.l (own ∷ []) ∙ ap (λ ws. ws ++ word ∷ []) has.words_are ∙ sym more_is;
      accepted_is = accepted_more d.options has.l own ∙ and-true (are_accepted d.options has.l) ∙ has.accepted_is;
      are_seen = seen_same d.options has.l seen word has.are_seen;
      last_is = λ others other are. ap value_of (sym (same_last has.l others own other are).1);
    }

-- ---- what is read of an option

-- the kind of an option, as the calls for its values take it
pub kind_here : {F V M S : Type 0} (options : List declared.Declared) (i : ℕ) (o : rust.Declared F V M S) (k : rust_kind.Kind F V M S) → slice_get options i ≡ Some (option_view o) → o.kind ≡ k → kind_of k ≡ kind_at options i
kind_here options i o k at is = ap kind_of (sym is) ∙ sym (ap (λ x. unwrap_or (option_map (λ p. p.kind) x) table.flag) at)

-- whether it accepts a value
pub accepts_here : {F V M S : Type 0} (options : List declared.Declared) (i : ℕ) (o : rust.Declared F V M S) (value : List ℕ) → slice_get options i ≡ Some (option_view o)
    → is_none (refused_value options (legal.option i (Some value))) ≡ declared.accepts (words_view o.words) value
accepts_here options i o value at = none_cond (accepts_at options i value) value ∙ ap (λ x. unwrap_or (option_map (λ p. declared.accepts p.words value) x) true) at

-- whether it accepts several values
pub all_accepted : {F V M S : Type 0} (options : List declared.Declared) (i : ℕ) (o : rust.Declared F V M S) (values : List (List ℕ)) (place : Option ℕ) → slice_get options i ≡ Some (option_view o)
    → place ≡ position (λ value. not (declared.accepts (words_view o.words) value)) values → is_none (refused_value options (legal.several i values)) ≡ is_none place
all_accepted options i o values place at is =
    ap is_none (first_refused options i (option_view o) values (position (λ value. not (declared.accepts (words_view o.words) value)) values) at refl)
    ∙ first_there (λ value. not (declared.accepts (words_view o.words) value)) values ∙ ap is_none (sym is)

pub first_is : (i : ℕ) (values : List (List ℕ)) → value_of (legal.several i values) ≡ first_of values
first_is i [] = refl
first_is i (v ∷ values) = refl

pub flag_here : {F V M S : Type 0} (options : List declared.Declared) (i : ℕ) (o : rust.Declared F V M S) → slice_get options i ≡ Some (option_view o)
    → ((x : F) × (o.kind ≡ rust_kinds.Flag x)) ⊎ ((o.kind ≡ rust_kinds.Help) ⊎ ((o.kind ≡ rust_kinds.BriefHelp) ⊎ ((x : Bor (List ℕ)) × (o.kind ≡ rust_kinds.Version x)))) → table.flag ≡ kind_at options i
flag_here options i o at (inl is) = kind_here options i o (rust_kinds.Flag is.0) at is.1
flag_here options i o at (inr (inl is)) = kind_here options i o rust_kinds.Help at is
flag_here options i o at (inr (inr (inl is))) = kind_here options i o rust_kinds.BriefHelp at is
flag_here options i o at (inr (inr (inr is))) = kind_here options i o (rust_kinds.Version is.0) at is.1

-- what a call returned
pub taken_so : (v w : UnreadLine) (r x : Result (List ℕ) Refusal) → r ≡ x → Value v (take_reply r) w → Value v (take_reply x) w
taken_so v w r x is step = subst (λ (y : Result (List ℕ) Refusal). Value v (take_reply y) w) is step

pub maybe_so : (v w : UnreadLine) (r x : Option (List ℕ)) → r ≡ x → OptionalStep v (steps.maybe r) w → Step calls.optional v (steps.maybe x) w
maybe_so v w r x is step = inl (subst (λ (y : Option (List ℕ)). OptionalStep v (steps.maybe y) w) is step)

pub value_ends : (v w : UnreadLine) (r : Result (List ℕ) Refusal) (refused : Refusal) → r ≡ Err refused → Value v (take_reply r) w → ValuesEndBy table.one v (refusal_reply refused) w
value_ends v w r refused is step = inr (calls.value, refl, taken_so v w r (Err refused) is step)

pub several_ends : (v w : UnreadLine) (refused : Refusal) → (refused ≡ OutOfMemory) ⊎ ((n : ℕ) × Step (calls.values n) v (refusal_reply refused) w) → ValuesEndBy table.several v (refusal_reply refused) w
several_ends v w refused (inl is) = inl (ap refusal_reply is)
several_ends v w refused (inr r) = inr (calls.values r.0, (r.0, refl), r.1)

pub lacks_values : (v w : UnreadLine) (refused : Refusal) → ValuesEndBy table.several v (refusal_reply refused) w → refused ≢ OutOfMemory → (pending v ≡ None) × (¬ IsNormalIn v.ended v.words)
lacks_values v w (UnexpectedValue o x) ends lacks = absurd (unexpected_never table.several v w o x (λ is. cc) ends)
lacks_values v w OutOfMemory ends lacks = absurd (lacks refl)
lacks_values v w (MissingValue o) (inl is) lacks = absurd (let e : steps.missing (option_map string_bytes o) ≡ steps.no_memory = is in cc)
lacks_values v w (MissingValue o) (inr ends) lacks =
    values_lack ends.1.0 v w (option_map string_bytes o)
    (enough (ValuesStep ends.1.0) v (steps.missing (option_map string_bytes o)) w (subst (λ call. Step call v (steps.missing (option_map string_bytes o)) w) ends.1.1 ends.2) (λ is. cc))

pub value_lacks : {E : Type 0} (r : Result AfterName E) (x : AfterName) (refused : Refusal) (P : AfterName → Type 0) → IfOk r (λ y. (y ≡ x) × refused ≢ OutOfMemory) → (refused ≢ OutOfMemory → P x) → IfOk r P
value_lacks (Ok y) x refused P is holds = subst P (sym is.0) (holds is.1)
value_lacks (Err e) x refused P is holds = tt

-- ---- an option with its values

pub grows : (t : table.Table) (u v w : UnreadLine) (name : Name) (k : Kind) (values : Values) → IsLine u → k ≡ table.kind t name → Next u (option_reply name) v → ReadsValues k v values w
    → Grows t u (item_with name values) (can_go_on k (pending v)) w
grows t u v w name table.flag (at_most_one None) line is next reads = subst (Grows t u (table.option name None) false) (sym reads) (grows_flag t u v name (sym is) next)
grows t u v w name table.one (at_most_one (Some word)) line is next reads = grows_one t u v w name word (sym is) next reads
grows t u v w name table.optional (at_most_one value) line is next reads = grows_optional t u v w name value (sym is) next reads
grows t u v w name table.several (all values) line is next reads =
    grows_several t u v w name reads.0 values (is_joined (pending v)) line (sym is) next reads.1 reads.2 (λ value has. ap is_joined has) (λ joins. value_in (pending v) joins)
  where
    value_in : (found : Option (List ℕ × Bool)) → is_joined found ≡ true → (value : List ℕ) × (found ≡ Some (value, true))
    value_in None joins = absurd (false≢true joins)
    value_in (Some (value, by_equals)) joins = (value, ap (λ b. Some (value, b)) joins)
grows t u v w name k values line is next reads = absurd reads

-- what is counted after an option
same_within : (l : List Parsed) (s : Parsed) (limit : Option ℕ) → counts s ≡ 0 → IsWithin (positional_count l) limit → IsWithin (positional_count (l ++ s ∷ [])) limit
same_within l s limit none within = subst (λ n. IsWithin n limit) (let e = count_append l (s ∷ []) in omega (arith, e, none)) within

no_words : (index : ℕ) (values : Values) → positional_words (parsed_with index values ∷ []) ≡ []
no_words index (at_most_one value) = refl
no_words index (all values) = refl

-- several values are a list
abbrev IsKindOf : Kind → Values → Type 0
IsKindOf table.several (at_most_one value) = ⊥
IsKindOf k values = Unit {0}

reached_by : (d : Declaration) (s u w : UnreadLine) (l : List Parsed) (going : Option ℕ) (name : Name) (index : ℕ) (k : Kind) (values : Values) (pending_is : Option (List ℕ × Bool)) (goes_on : Bool) → Reached d s l going u → index_of d.options name ≡ Some index
    → Grows (declared.table d.options) u (item_with name values) (can_go_on k pending_is) w → IsLine w → IsWithin (positional_count (l ++ parsed_with index values ∷ [])) (most d.positionals) → IsKindOf k values → can_go_on k pending_is ≡ goes_on
    → Reached d s (l ++ parsed_with index values ∷ []) (index_if goes_on index) w
reached_by d s u w l going name index k values pending_is false at found grow line within fits is =
    closed_reached d s u w l going (item_with name values) (parsed_with index values) at (subst (λ b. Grows (declared.table d.options) u (item_with name values) b w) is grow) (option_item d name index values found) line within
reached_by d s u w l going name index table.several (all values) pending_is true at found grow line within fits is =
    open_reached d s u w l going name index values at (subst (λ b. Grows (declared.table d.options) u (table.many name values) b w) is grow) found line within
reached_by d s u w l going name index table.several (at_most_one value) pending_is true at found grow line within fits is = absurd fits
reached_by d s u w l going name index k values pending_is true at found grow line within fits is = absurd (false≢true is)

fits : (k : Kind) (v w : UnreadLine) (values : Values) → ReadsValues k v values w → IsKindOf k values
fits table.several v w (at_most_one value) reads = reads
fits k v w values reads = tt

-- one more option
pub has_option : (d : Declaration) (s u v w : UnreadLine) (words : List (List ℕ)) (accepted own : Bool) (last : Option (ℕ × List ℕ)) (going : Option ℕ) (value : Option (List ℕ)) (goes_on : Bool) (name : Name) (index : ℕ) (seen more : List ℕ)
    → is_sound d.options ≡ true → HasReached d s u words accepted last going seen → more ≡ noted (is_noted_at d.options index) index seen → Next u (option_reply name) v → index_of d.options name ≡ Some index → IsAfterName d index v (after.Values own value goes_on) w
    → HasReached d s w words (accepted && own) (with_index index value) (index_if goes_on index) more × (bound w < bound u) × (w.ended ≡ false)
has_option d s u v w words accepted own last going value goes_on name index seen more sound has more_is next found (k, values, k_is, reads, own_is, value_is, goes_is) = (
  record {
    l = has.l ++ parsed ∷ [];
    at = reached_by d s u w has.l going name index k values (pending v) goes_on has.at found (grows (declared.table d.options) u v w name k values has.at.upto.line kind_so next reads) line within (fits k v w values reads) goes_is;
    words_are = words_append has.l (parsed ∷ []) ∙ ap (λ ws. positional_words has.l ++ ws) (no_words index values) ∙ append-nil (positional_words has.l) ∙ has.words_are;
    accepted_is = accepted_more d.options has.l parsed ∙ ap (λ b. b && is_none (refused_value d.options parsed)) has.accepted_is ∙ ap (λ b. accepted && b) own_is;
    are_seen = subst (AreSeen d.options (has.l ++ parsed ∷ [])) (sym more_is) (seen_more d.options has.l seen index parsed (option_with index values) has.are_seen);
    last_is = read_last has.l index parsed value (option_with index values) value_is;
  },
  read.shorter,
  before_separator d (positional_count has.l) u w parsed has.at.upto.line read (no_count index values),
)
  where
    parsed : Parsed
    parsed = parsed_with index values

    read : ReadsParsed d (positional_count has.l) u parsed w
    read = option_parsed d (positional_count has.l) u v w name k index values sound k_is next found reads

    kind_so : k ≡ table.kind (declared.table d.options) name
    kind_so = k_is ∙ kind_of_index d.options name index sound found

    line : IsLine w
    line = read.line has.at.upto.line

    within : IsWithin (positional_count (has.l ++ parsed ∷ [])) (most d.positionals)
    within = same_within has.l parsed (most d.positionals) (no_count index values) has.at.upto.within

-- ---- the option itself

pub option_at : {F V M S : Type 0} (options os : List (rust.Declared F V M S)) (o : rust.Declared F V M S) (name : Name) (index : ℕ) → os ≡ options → index_of (map option_view options) name ≡ Some index → o ≡ get_or os index o
    → slice_get options index ≡ Some o
option_at {F} {V} {M} {S} options os o name index same found is = at_place options index o (found_within options name index found) (subst (λ (l : List (rust.Declared F V M S)). o ≡ get_or l index o) same is)

pub option_there : {F V M S : Type 0} (options os : List (rust.Declared F V M S)) (o : rust.Declared F V M S) (name : Name) (index : ℕ) → os ≡ options → index_of (map option_view options) name ≡ Some index → o ≡ get_or os index o
    → slice_get (map option_view options) index ≡ Some (option_view o)
option_there options os o name index same found is = view_there options index o (option_at options os o name index same found is)

-- ---- where the reading ends

-- what words mean is what was read of them
pub means_read : (d : Declaration) (words : List (List ℕ)) (l : List Parsed) (state : spec.State) → Leaves d words l state → (m : List Parsed) → MeansFront d words m → m ≡ l
means_read d words l spec.anything (leaves_anything says more) m means = says_once d words m l (front_says d words m means) says.says
means_read d words l (spec.due i) (leaves_due j none more) m means = absurd (none m means)
means_read d words l (spec.first i) (leaves_first j none more nor) m means = absurd (none m means)
means_read d words l (spec.further i) (leaves_further j before values is says more) m means = says_once d words m l (front_says d words m means) says.says
means_read d words l spec.ended (leaves_ended says more) m means = says_once d words m l (front_says d words m means) says

-- at the end of the words
pub front_at_end : (d : Declaration) (u v : UnreadLine) (words : List (List ℕ)) (front : Front) (going : Option ℕ) → is_sound d.options ≡ true
    → HasReached d (start d.short_equals words) u front.words.items front.accepted front.last going front.seen.items → Next u steps.end v → state_view front.state ≡ state_at_end going v.ended → IsFront d words front
front_at_end d u v words front going sound has next state_is =
    let leaves = subst (Leaves d words has.l) (sym state_is) (end_leaves d words has.l going u v sound has.at next) in
    record {
      l = has.l;
      leaves = leaves;
      within = has.at.upto.within;
      words_are = has.words_are;
      accepted_is = has.accepted_is;
      are_seen = has.are_seen;
      last_is = last_so front.last has.l has.last_is (means_read d words has.l (state_view front.state) leaves) (front_here has.l (end_leaves d words has.l going u v sound has.at next) has.at.upto.within);
    }
  where
    front_here : (l : List Parsed) → Leaves d words l (state_at_end going v.ended) → IsWithin (positional_count l) (most d.positionals) → MeansFront d words l
    front_here l leaves within = says_front d words l (said going v.ended leaves) within
      where
        said : (going : Option ℕ) (ended : Bool) → Leaves d words l (state_at_end going ended) → Says d words l
        said going true (leaves_ended says more) = says
        said (Some i) false (leaves_further j before values are says more) = says.says
        said None false (leaves_anything says more) = says.says

    last_so : (last : Option (ℕ × List ℕ)) (l : List Parsed) → IsReadLast l last → ((m : List Parsed) → MeansFront d words m → m ≡ l) → MeansFront d words l → IsLast d words last
    last_so None l read means front_is = λ others x other. read others x (sym (means (others ++ x ∷ []) other))
    last_so (Some found) l read means front_is = (read.0, read.1, subst (MeansFront d words) read.2 front_is, read.3, read.4)

lacking : (d : Declaration) (words : List (List ℕ)) (front : Front) (l : List Parsed) (state : spec.State) → state_view front.state ≡ state → front.last ≡ None → Leaves d words l state → ((m : List Parsed) → MeansFront d words m → ⊥)
    → IsWithin (positional_count l) (most d.positionals) → positional_words l ≡ front.words.items → are_accepted d.options l ≡ front.accepted → AreSeen d.options l front.seen.items → IsFront d words front
lacking d words front l state state_is no_last leaves none within words_are accepted_is are_seen = record {
  l = l;
  leaves = subst (Leaves d words l) (sym state_is) leaves;
  within = within;
  words_are = words_are;
  accepted_is = accepted_is;
  are_seen = are_seen;
  last_is = subst (IsLast d words) (sym no_last) (λ others last means. absurd (none (others ++ last ∷ []) means));
}

-- where an option lacks a value at the end of the words
pub front_lacking : (d : Declaration) (u v w : UnreadLine) (words : List (List ℕ)) (front : Front) (last : Option (ℕ × List ℕ)) (going : Option ℕ) (name : Name) (index : ℕ) → is_sound d.options ≡ true
    → HasReached d (start d.short_equals words) u front.words.items front.accepted last going front.seen.items → front.last ≡ None → Next u (option_reply name) v → index_of d.options name ≡ Some index → (state_is : State) → front.state ≡ state_is
    → IsAfterName d index v (after.Lacks state_is) w → IsFront d words front
front_lacking d u v w words front last going name index sound has no_last next found (state.Due i) state_is (same, k, none, empty) =
    let leaves = subst (λ (j : ℕ). Leaves d words has.l (spec.due j)) (sym same) (value_due d words has.l going u v name index sound has.at next found (sym (kind_of_index d.options name index sound found) ∙ k) none empty) in
    lacking d words front has.l (spec.due i) (ap state_view state_is) no_last leaves (λ m. no_front_due leaves m) has.at.upto.within has.words_are has.accepted_is has.are_seen
  where
    no_front_due : {l : List Parsed} → Leaves d words l (spec.due i) → (m : List Parsed) → MeansFront d words m → ⊥
    no_front_due (leaves_due j none more) m means = none m means
front_lacking d u v w words front last going name index sound has no_last next found (state.First i) state_is (same, k, none, empty) =
    let leaves = subst (λ (j : ℕ). Leaves d words has.l (spec.first j)) (sym same) (first_due d words has.l going u v name index sound has.at next found (sym (kind_of_index d.options name index sound found) ∙ k) none empty) in
    lacking d words front has.l (spec.first i) (ap state_view state_is) no_last leaves (λ m. no_front_first leaves m) has.at.upto.within has.words_are has.accepted_is has.are_seen
  where
    no_front_first : {l : List Parsed} → Leaves d words l (spec.first i) → (m : List Parsed) → MeansFront d words m → ⊥
    no_front_first (leaves_first j none more nor) m means = none m means
front_lacking d u v w words front last going name index sound has no_last next found other state_is lacks = absurd lacks

-- ---- what can come after words that mean this

pub front_opens : (d : Declaration) (words : List (List ℕ)) (front : Front) → IsFront d words front → Opens d words (spec.opens (state_view front.state))
front_opens d words front is = (
  (λ yes. (is.l, open_there d words is.l (state_view front.state) is.leaves is.within yes)),
  (λ there. closed (spec.opens (state_view front.state)) refl there),
)
  where
    closed : (b : Bool) → spec.opens (state_view front.state) ≡ b → (l : List Parsed) × IsOpen d words l → b ≡ true
    closed true so there = refl
    closed false so there = absurd (never_open d words is.l (state_view front.state) is.leaves so there.0 there.1)

pub nowhere_opens : (d : Declaration) (words : List (List ℕ)) → LeadsNowhere d words → Opens d words false
nowhere_opens d words none = ((λ yes. absurd (false≢true yes)), (λ there. absurd (nowhere_open d words none there.0 there.1)))

-- a declared option can come where an option can, and what was read is accepted
pub front_comes : (d : Declaration) (words : List (List ℕ)) (front : Front) (b : Bool) → IsFront d words front
    → (IsTrue b ↔ ((spec.opens (state_view front.state) ≡ true) × (front.accepted ≡ true) × CanBeTaken d.positionals front.words.items)) → CanCome d words b
front_comes d words front b is holds = (
  (λ yes.
      let all = holds.0 yes in
      (is.l, open_there d words is.l (state_view front.state) is.leaves is.within all.0, is.accepted_is ∙ all.1, subst (CanBeTaken d.positionals) (sym is.words_are) all.2)),
  (λ there.
      let opens = (front_opens d words front is).1 (there.0, there.1) in
      let same = means_read d words is.l (state_view front.state) is.leaves there.0 there.1.front in
      holds.1
      (opens, sym is.accepted_is ∙ sym (ap (are_accepted d.options) same) ∙ there.2, subst (CanBeTaken d.positionals) (ap positional_words same ∙ is.words_are) there.3)),
)

pub nowhere_comes : (d : Declaration) (words : List (List ℕ)) → LeadsNowhere d words → CanCome d words false
nowhere_comes d words none = ((λ yes. absurd (false≢true yes)), (λ there. absurd (nowhere_open d words none there.0 there.1)))

-- what a word is
pub front_role : (d : Declaration) (words : List (List ℕ)) (typed : List ℕ) (front : Front) (dashed : Bool) → IsFront d words front → (IsTrue dashed ↔ BeginsWith dash typed)
    → HasRole d words typed (role_in d.positionals front.words.items dashed (state_view front.state))
front_role d words typed front dashed is so =
    subst (λ own. HasRole d words typed (role_in d.positionals own dashed (state_view front.state))) is.words_are
    (role_there d words typed is.l (state_view front.state) dashed so is.leaves is.within)

-- ---- a value in the word of its option

-- the word means nothing, or what it means last has no value
pub no_value : (d : Declaration) (words : List (List ℕ)) (typed : List ℕ) → IsLast d (typed ∷ []) None → IsJoined d words typed None
no_value d words typed none = λ i before joins. let e : None ≡ Some joins.value = sym (none joins.others joins.last joins.word_means) ∙ joins.has_value in cc

pub nowhere_joined : (d : Declaration) (words : List (List ℕ)) (typed : List ℕ) → LeadsNowhere d (typed ∷ []) → IsJoined d words typed None
nowhere_joined d words typed none = λ i before joins. none.here (joins.others ++ joins.last ∷ []) joins.word_means

pub no_text : (d : Declaration) (words : List (List ℕ)) (typed : List ℕ) (found : ℕ × List ℕ) → IsLast d (typed ∷ []) (Some found) → ((before : List ℕ) → IsUtf8 before → typed ≡ before ++ found.1 → ⊥) → IsJoined d words typed None
no_text d words typed found last none = λ i before joins.
    let same = one_front d (typed ∷ []) (last.0 ++ last.1 ∷ []) (joins.others ++ joins.last ∷ []) last.2 joins.word_means in
    let values : Some found.1 ≡ Some joins.value = sym last.4 ∙ ap value_of (same_last last.0 joins.others last.1 joins.last same).1 ∙ joins.has_value in
    let value_is : found.1 ≡ joins.value = cc in
    none before joins.text (joins.apart ∙ ap (λ v. before ++ v) (sym value_is))

pub joins : (d : Declaration) (words : List (List ℕ)) (typed : List ℕ) (found : ℕ × List ℕ) (before : List ℕ) → Opens d words true → IsLast d (typed ∷ []) (Some found) → IsUtf8 before → typed ≡ before ++ found.1
    → JoinsValue d words typed found.0 before
joins d words typed found before opens last utf8 apart = record {
  parsed = (opens.0 refl).0;
  is_open = (opens.0 refl).1;
  others = last.0;
  last = last.1;
  word_means = last.2;
  is = last.3;
  value = found.1;
  has_value = last.4;
  apart = apart;
  text = utf8;
}
