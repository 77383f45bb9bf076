-- The clause of `try_new`, for an option and two positionals.
use Rattle.std.proofs.Common.{◌≡◌, ℕ, suc, Bool, true, false, List, [], ◌∷◌, ◌++◌, Some, None, Option, length, map, refl, sym, subst, ap, ◌∙◌, codes, inl, inr, if◌then◌else◌}
use Rattle.std.specs.Prelude.{◌&&◌, filter, option_map, slice_get, unwrap_or, is_none, zero}
use Rattle.std.specs.Prelude.{IfOk, MatchResult, Result, String, string_bytes}
use Rattle.std.specs.Borrow.{Bor}
use Rattle.std.specs.Global.{Global}
use Rattle.std.proofs.lemmas.Result.{IfOk-weaker, MatchResult-weaker}
use Rattle.std.specs.List.{list_all}
use Rattle.std.proofs.lemmas.Option.{slice_get-map}
use Rattle.lexopt_line_spec.proofs.Computing.{computing}
use Rattle.lexopt_options_spec.specs.Declaration as spec
use Rattle.lexopt_options_spec.specs.Declaration.{IsFirstBadList, IsFirstFault, IsSecondRepeated, are_clear, are_listable, is_sound, list_fault, may_repeat}
use Rattle.lexopt_options_spec.specs.Help.{IsUsage}
use Rattle.lexopt_declaration.specs.Declarations.{declaration_view}
use Rattle.lexopt_declaration.specs.Lookups.{names_at}
use Rattle.lexopt_declaration.specs.Models.{count_view, positional_view}
use Rattle.lexopt_runtime_options.specs.Faults.{reason_view}
use Rattle.lexopt_declaration.specs.declared.declaration.Count.{Count}
use Rattle.lexopt_declaration.specs.declared.declaration.Count.TheVariants as count
use Rattle.lexopt_declaration.specs.declared.declaration.Declaration.{Declaration}
use Rattle.lexopt_runtime_options.specs.declared.faults.DeclarationError.TheVariants as refusal
use Rattle.lexopt_declaration.specs.declared.declaration.Names.{Names}
use Rattle.lexopt_declaration.specs.declared.declaration.Names.TheVariants.{Short}
use Rattle.lexopt_declaration.specs.declared.declaration.Positional.{Positional}
use Rattle.lexopt_runtime_options.specs.declared.faults.Reason.{Reason}
use Rattle.lexopt_runtime_options.specs.declared.faults.Reason.TheVariants as reason
use Rattle.test_option_callers.specs.Printed.{CanBeListed, IsErrorOf, IsErrorWith, IsUsageOf, IsUsageWith, count_of, list_reason, names_line, one_option, printed_text, reason_line, reason_of, repeats, small_tool, two_words}

-- ---- how often each may occur

same_count : (c : Count) → count_view c ≡ count_of c
same_count count.Once = refl
same_count count.AtMostOnce = refl
same_count count.AnyNumber = refl
same_count count.AtLeastOnce = refl

-- the tool with these counts
abbrev pub made : ℕ → List ℕ → spec.Count → spec.Count → List (List ℕ) → spec.Declaration
made character help first second values = record (small_tool character help count.Once count.Once values) {
  positionals = record { placeholder = codes "FROM"; count = first; help = help; words = spec.directories; hides_list = false }
      ∷ record { placeholder = codes "TO"; count = second; help = help; words = spec.listed values; hides_list = false } ∷ [];
}

pub same_tool : (character : ℕ) (help : List ℕ) (first second : Count) (values : List (List ℕ))
    → made character help (count_view first) (count_view second) values ≡ small_tool character help first second values
same_tool character help first second values =
    ap (λ (c : spec.Count). made character help c (count_view second) values) (same_count first)
    ∙ ap (λ (c : spec.Count). made character help (count_of first) c values) (same_count second)

not_both : (help : List ℕ) (first second : Count) (values : List (List ℕ)) → are_clear (two_words help first second values) ≡ true → (repeats first && repeats second) ≡ false
not_both help count.Once second values clear = refl
not_both help count.AtMostOnce second values clear = refl
not_both help count.AnyNumber count.Once values clear = refl
not_both help count.AnyNumber count.AtMostOnce values clear = refl
not_both help count.AnyNumber count.AnyNumber values clear = let no : false ≡ true = clear in cc
not_both help count.AnyNumber count.AtLeastOnce values clear = let no : false ≡ true = clear in cc
not_both help count.AtLeastOnce count.Once values clear = refl
not_both help count.AtLeastOnce count.AtMostOnce values clear = refl
not_both help count.AtLeastOnce count.AnyNumber values clear = let no : false ≡ true = clear in cc
not_both help count.AtLeastOnce count.AtLeastOnce values clear = let no : false ≡ true = clear in cc

before_it : (p : spec.Positional) (first : Count) → length (filter (λ (q : spec.Positional). may_repeat q.count) (record p { count = count_of first } ∷ [])) ≡ 1 → repeats first ≡ true
before_it p count.Once one = let no : zero ≡ suc zero = one in cc
before_it p count.AtMostOnce one = let no : zero ≡ suc zero = one in cc
before_it p count.AnyNumber one = refl
before_it p count.AtLeastOnce one = refl

itself : (second : Count) → may_repeat (count_of second) ≡ true → repeats second ≡ true
itself count.Once more = let no : false ≡ true = more in cc
itself count.AtMostOnce more = let no : false ≡ true = more in cc
itself count.AnyNumber more = refl
itself count.AtLeastOnce more = refl

-- the second positional that may occur more than once has index 1
twice : (help : List ℕ) (first second : Count) (values : List (List ℕ)) (index : ℕ) → IsSecondRepeated (two_words help first second values) index
    → (index ≡ 1) × ((repeats first && repeats second) ≡ true)
twice help first second values zero is = let no : zero ≡ suc zero = is.before in cc
twice help first second values (suc zero) is =
    let more : may_repeat (count_of second) ≡ true = ap (λ (o : Option spec.Positional). unwrap_or (option_map (λ (p : spec.Positional). may_repeat p.count) o) false) is.here ∙ is.repeats in
    let one : repeats first ≡ true = before_it (record { placeholder = codes "FROM"; count = spec.once; help = help; words = spec.directories; hides_list = false }) first is.before in
    (refl, ap (λ (b : Bool). b && repeats second) one ∙ itself second more)
twice help first second values (suc (suc index)) is = let no : None ≡ Some is.positional = is.here in cc

-- ---- the list

fine : (b : Bool) → (is_none (if b then None else Some spec.bad_list) && true) ≡ true → b ≡ true
fine true is = refl
fine false is = let no : false ≡ true = is in cc

bad : (b : Bool) → b ≡ true → ¬ ((if b then None else Some spec.bad_list) ≡ Some spec.bad_list)
bad true is = λ no. cc
bad false is = λ no. cc

can_be_listed : (help : List ℕ) (first second : Count) (values : List (List ℕ)) → are_listable (two_words help first second values) ≡ true → CanBeListed values
can_be_listed help first second [] is = let no : false ≡ true = is in cc
can_be_listed help first second (v ∷ vs) is = ((λ no. cc), fine (list_all spec.is_listable (v ∷ vs)) is)

cannot : (values : List (List ℕ)) → list_fault (spec.listed values) ≡ Some spec.bad_list → ¬ CanBeListed values
cannot [] is = λ can. can.0 refl
cannot (v ∷ vs) is = λ can. bad (list_all spec.is_listable (v ∷ vs)) can.1 is

-- the first positional whose list cannot be declared has index 1
bad_one : (help : List ℕ) (first second : Count) (values : List (List ℕ)) (index : ℕ) → IsFirstBadList (two_words help first second values) index → (index ≡ 1) × (¬ CanBeListed values)
bad_one help first second values zero is =
    let no : None ≡ Some spec.bad_list = ap (λ (o : Option spec.Positional). unwrap_or (option_map (λ (p : spec.Positional). list_fault p.words) o) None) is.here ∙ is.bad in
    cc
bad_one help first second values (suc zero) is =
    (refl, cannot values (ap (λ (o : Option spec.Positional). unwrap_or (option_map (λ (p : spec.Positional). list_fault p.words) o) None) is.here ∙ is.bad))
bad_one help first second values (suc (suc index)) is = let no : None ≡ Some is.positional = is.here in cc

-- ---- the names in the text

named : {P : Type 0} (found : Option (Positional P)) (own : Bor (List ℕ)) (text : List ℕ) → option_map (λ (p : Positional P). p.placeholder) found ≡ Some own
    → option_map (λ (q : spec.Positional). q.placeholder) (option_map positional_view found) ≡ Some text → own.now ≡ text
named None own text is at = let no : None ≡ Some own = is in cc
named (Some p) own text is at =
    sym (ap (λ (o : Option (Bor (List ℕ))). (unwrap_or o own).now) is) ∙ ap (λ (o : Option (List ℕ)). unwrap_or o text) at

is_second : {P : Type 0} (ps : List (Positional P)) (help : List ℕ) (first second : Count) (values : List (List ℕ)) (index : ℕ) (own : Bor (List ℕ)) → map positional_view ps ≡ two_words help first second values
    → index ≡ 1 → option_map (λ (p : Positional P). p.placeholder) (slice_get ps index) ≡ Some own → own.now ≡ codes "TO"
is_second ps help first second values index own view one is =
    named (slice_get ps 1) own (codes "TO") (subst (λ (i : ℕ). option_map (λ (p : Positional _). p.placeholder) (slice_get ps i) ≡ Some own) one is)
    (ap (option_map (λ (q : spec.Positional). q.placeholder)) (sym (slice_get-map positional_view ps 1) ∙ ap (λ (l : List spec.Positional). slice_get l 1) view))

same_reason : (r : Reason) → reason_view r ≡ reason_of r
same_reason reason.DashName = refl
same_reason reason.EmptyName = refl
same_reason reason.EqualsInName = refl
same_reason reason.ReplacementInName = refl
same_reason reason.BlankOrControlInName = refl
same_reason reason.BadPlaceholder = refl
same_reason reason.BadList = refl
same_reason reason.BadDefault = refl
same_reason reason.BadLabel = refl
same_reason reason.BadExclusive = refl
same_reason reason.SameName = refl

-- the placeholder is printed as it is
to_is_printed : printed_text (codes "TO") ≡ codes "TO"
unfolding computing
to_is_printed = refl

-- the only option has index 0
only_one : (character : ℕ) (help : List ℕ) (index : ℕ) (r : spec.Reason) → IsFirstFault (one_option character help) index r → index ≡ 0
only_one character help zero r is = refl
only_one character help (suc index) r is = let no : None ≡ Some (Some r) = is.here in cc

-- ---- the whole clause

pub usage_of : {F V P M S : Type 0} (width character : ℕ) (help : List ℕ) (first second : Count) (values : List (List ℕ)) (d : Declaration F V P M S) (text : List ℕ)
    → declaration_view d ≡ small_tool character help first second values → IsUsageWith width d text → IsUsageOf width character help first second values text
usage_of width character help first second values d text view (sound, clear, listable, usage) = (
  subst (λ (own : spec.Declaration). is_sound own.options ≡ true) view sound,
  not_both help first second values (subst (λ (own : spec.Declaration). are_clear own.positionals ≡ true) view clear),
  can_be_listed help first second values (subst (λ (own : spec.Declaration). are_listable own.positionals ≡ true) view listable),
  subst (λ (own : spec.Declaration). IsUsage width own text) view usage,
)

pub error_of : {F V P M S : Type 0} (character : ℕ) (help : List ℕ) (first second : Count) (values : List (List ℕ)) (d : Declaration F V P M S) (text : List ℕ)
    → declaration_view d ≡ small_tool character help first second values → names_at d.options.now (Some 0) ≡ Some (Short character) → IsErrorWith d text
    → IsErrorOf character help first second values text
error_of character help first second values d text view names (refusal.Option own r, (index, fault, at), is) =
    let there : IsFirstFault (one_option character help) index (reason_view r) = subst (λ (own : spec.Declaration). IsFirstFault own.options index (reason_view r)) view fault in
    let here : index ≡ 0 = only_one character help index (reason_view r) there in
    let same : Some own ≡ Some (Short character) = sym (subst (λ (i : ℕ). names_at d.options.now (Some i) ≡ Some own) here at) ∙ names in
    inl (
      r,
      subst (λ (i : ℕ). IsFirstFault (one_option character help) i (reason_of r)) here (subst (IsFirstFault (one_option character help) index) (same_reason r) there),
      is ∙ ap (λ (n : Option Names). codes "option '" ++ (names_line (unwrap_or n own) ++ (codes "': " ++ reason_line r))) same,
    )
error_of character help first second values d text view names (refusal.Positional own, (sound, (index, second_one, at)), is) =
    let second_is : (index ≡ 1) × ((repeats first && repeats second) ≡ true) = twice help first second values index (subst (λ (own : spec.Declaration). IsSecondRepeated own.positionals index) view second_one) in
    let name : own.now ≡ codes "TO" = is_second d.positionals.now help first second values index own (ap (λ (own : spec.Declaration). own.positionals) view) second_is.0 at in
    inr (inl (
      subst (λ (own : spec.Declaration). is_sound own.options ≡ true) view sound,
      second_is.1,
      is ∙ ap (λ (t : List ℕ). codes "positional argument " ++ (t ++ codes ": one before it may occur more than once too")) (ap printed_text name ∙ to_is_printed),
    ))
error_of character help first second values d text view names (refusal.BadList own, (sound, clear, (index, bad_is, at)), is) =
    let second_is : (index ≡ 1) × (¬ CanBeListed values) = bad_one help first second values index (subst (λ (own : spec.Declaration). IsFirstBadList own.positionals index) view bad_is) in
    let name : own.now ≡ codes "TO" = is_second d.positionals.now help first second values index own (ap (λ (own : spec.Declaration). own.positionals) view) second_is.0 at in
    inr (inr (
      subst (λ (own : spec.Declaration). is_sound own.options ≡ true) view sound,
      not_both help first second values (subst (λ (own : spec.Declaration). are_clear own.positionals ≡ true) view clear),
      second_is.1,
      is ∙ ap (λ (t : List ℕ). codes "positional argument " ++ (t ++ (codes ": " ++ list_reason))) (ap printed_text name ∙ to_is_printed),
    ))

pub usage_or_error_of : {F V P M S E : Type 0} (width character : ℕ) (help : List ℕ) (first second : Count) (values : List (List ℕ)) (result : Result (Result (String Global) (String Global)) E) (d : Declaration F V P M S)
    → IfOk result (λ told. MatchResult told (λ (text : String Global). IsUsageWith width d (string_bytes text)) (λ (text : String Global). IsErrorWith d (string_bytes text)))
    → declaration_view d ≡ small_tool character help first second values → names_at d.options.now (Some 0) ≡ Some (Short character)
    → IfOk result (λ told. MatchResult told (λ (text : String Global). IsUsageOf width character help first second values (string_bytes text)) (λ (text : String Global). IsErrorOf character help first second values (string_bytes text)))
usage_or_error_of width character help first second values result d is view names =
    IfOk-weaker result _ _ (λ told own. MatchResult-weaker told own (λ text usage. usage_of width character help first second values d (string_bytes text) view usage) (λ text error. error_of character help first second values d (string_bytes text) view names error)) is
