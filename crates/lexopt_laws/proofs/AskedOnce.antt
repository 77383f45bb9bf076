-- A line asks for at most one thing, whatever else is found of it.
use Rattle.std.proofs.Common.{append-nil, ◌≡◌, ℕ, true, List, [], ◌∷◌, ◌++◌, map, Option, Some, None, refl, sym, ap, subst, ◌∙◌, inl, inr, arith}
use Rattle.lexopt_spec.specs.UnreadLine.{UnreadLine}
use Rattle.lexopt_spec.specs.Steps as steps
use Rattle.lexopt_spec.specs.Steps.{Reply, Next}
use Rattle.lexopt_spec.specs.Runs.{Call, Run, Step}
use Rattle.lexopt_line_spec.specs.Table as spec
use Rattle.lexopt_line_spec.specs.Table.{Item, Kind, Table, flag}
use Rattle.lexopt_line_spec.specs.Readings.{AskedAfter, last, more, GoesOn, IsDue, IsReading, items_of_replies, start}
use Rattle.lexopt_line_spec.proofs.ItemsRead.{says_items}
use Rattle.lexopt_line_spec.proofs.OneReading.{some_reading, no_other_reading}
use Rattle.lexopt_line_spec.proofs.ReplyKinds.{IsNextReply, next_reply}
use Rattle.lexopt_options_spec.specs.Asking.{AskFor, all_but_last, asked_by, first_asked, or_asked, parsed_before}
use Rattle.lexopt_options_spec.specs.Declaration.{Asked, Declaration, Declared, table}
use Rattle.lexopt_options_spec.specs.Legal as legal
use Rattle.lexopt_options_spec.specs.Legal.{Parsed, Means, parsed_item, positional_count, are_accepted}
use Rattle.lexopt_options_spec.specs.Stops.{Mistake, StopsAt, unknown_option, unexpected_value, missing_value, invalid_value, unexpected_argument, invalid_argument, missing_argument, missing_option, exclusive_options}
use Rattle.lexopt_options_spec.proofs.Fronts.{front_later}
use Rattle.lexopt_options_spec.proofs.Lists.{count_append, same_somes, split}
use Rattle.lexopt_laws.proofs.OneStop.{Compared, same, shorter, longer, compared, IsMissing, lacks_argument, refuses_word, lacks_option, excludes_option, Left, undeclared_first, flag_value, valueless, refused_first, no_room, at_end, left_of, not_shorter}

-- ---- the first thing that asks

parts_none : (o rest : Option Asked) → or_asked o rest ≡ None → (o ≡ None) × (rest ≡ None)
parts_none None rest is = (refl, is)
parts_none (Some a) rest is = absurd (let e : Some a ≡ None = is in cc)

-- what comes later does not change what is asked for
asks_first : (options : List Declared) (before : List Parsed) (s : Parsed) (later : List Parsed) (a : Asked) → first_asked options before ≡ None → asked_by options s ≡ Some a
    → first_asked options ((before ++ s ∷ []) ++ later) ≡ Some a
asks_first options [] s later a none is = ap (λ o. or_asked o (first_asked options later)) is
asks_first options (b ∷ before) s later a none is =
    let parts = parts_none (asked_by options b) (first_asked options before) none in
    ap (λ o. or_asked o (first_asked options ((before ++ s ∷ []) ++ later))) parts.0 ∙ asks_first options before s later a parts.1 is

some_same : (a b : Asked) → Some a ≡ Some b → a ≡ b
some_same a b is = cc

-- what was read before an option that asks, and that option
abbrev asking : {d : Declaration} {words : List (List ℕ)} {a : Asked} → AskFor d words a → List Parsed
asking ask = ask.before ++ ask.parsed ∷ []

asked_with : (d : Declaration) (words : List (List ℕ)) (a : Asked) (ask : AskFor d words a) (later : List Parsed) → first_asked d.options (asking ask ++ later) ≡ Some a
asked_with d words a ask later = asks_first d.options ask.before ask.parsed later a ask.none_before ask.asks

asked_alone : (d : Declaration) (words : List (List ℕ)) (a : Asked) (ask : AskFor d words a) → first_asked d.options (asking ask) ≡ Some a
asked_alone d words a ask = ap (first_asked d.options) (sym (append-nil (asking ask))) ∙ asked_with d words a ask []

-- ---- a line that is read to its end

pub asked_of_list : (d : Declaration) (words : List (List ℕ)) (l : List Parsed) (a : Asked) → Means d words l → AskFor d words a → first_asked d.options l ≡ Some a
asked_of_list d words l a means ask =
    let rest = front_later d words (asking ask) ask.there ask.read l means.whole.front in
    ap (first_asked d.options) rest.1 ∙ asked_with d words a ask rest.0

-- ---- two options that ask

same_asked : (d : Declaration) (words : List (List ℕ)) (a b : Asked) (ask : AskFor d words a) (again : AskFor d words b) (ms ns : List Item)
    → Compared ask.read.items again.read.items ms ns → a ≡ b
same_asked d words a b ask again ms ns (same front back) =
    let lists : asking ask ≡ asking again = same_somes (asking ask) (asking again) (sym ask.read.parsed ∙ ap (map (parsed_item d.options)) front ∙ again.read.parsed) in
    some_same a b (sym (asked_alone d words a ask) ∙ ap (first_asked d.options) lists ∙ asked_alone d words b again)
same_asked d words a b ask again ms ns (shorter x rest front back) =
    let later = split (parsed_item d.options) ask.read.items (x ∷ rest) (asking ask) (asking again) ask.read.parsed (sym (ap (map (parsed_item d.options)) front) ∙ again.read.parsed) in
    some_same a b (sym (asked_with d words a ask later.later) ∙ ap (first_asked d.options) (sym later.all_are) ∙ asked_alone d words b again)
same_asked d words a b ask again ms ns (longer x rest front back) =
    let later = split (parsed_item d.options) again.read.items (x ∷ rest) (asking again) (asking ask) again.read.parsed (sym (ap (map (parsed_item d.options)) front) ∙ ask.read.parsed) in
    some_same a b (sym (asked_alone d words a ask) ∙ ap (first_asked d.options) later.all_are ∙ asked_with d words b again later.later)

pub one_asked : (d : Declaration) (words : List (List ℕ)) (a b : Asked) → AskFor d words a → AskFor d words b → a ≡ b
one_asked d words a b ask again =
    let t = table d.options in
    let one = some_reading t ask.there ask.read.line in
    let other = some_reading t again.there again.read.line in
    let both = no_other_reading t (start d.short_equals words) one.0 other.0 (ask.read.items ++ one.1) (again.read.items ++ other.1)
    (says_items t (start d.short_equals words) ask.there ask.read.items ask.read.read one.0 one.1 one.2)
    (says_items t (start d.short_equals words) again.there again.read.items again.read.read other.0 other.1 other.2) in
    same_asked d words a b ask again one.1 other.1 (compared ask.read.items again.read.items one.1 other.1 both.1)

-- ---- a reading without items

next_found : (u after : UnreadLine) (r : Reply) → (IsNextReply r → ⊥) → (r ≡ steps.no_memory → ⊥) → Next u r after → ⊥
next_found u after r other memory (inl step) = other (next_reply u after r step)
next_found u after r other memory (inr refused) = memory refused.reply_is

goes_with_item : (t : Table) (u between : UnreadLine) (r : Reply) (k : Kind) (replies : List Reply) → GoesOn t r k → Next u r between → items_of_replies (r ∷ replies) ≡ [] → ⊥
goes_with_item t u between (steps.short c) k replies goes step none = let e : _ ∷ items_of_replies replies ≡ [] = none in cc
goes_with_item t u between (steps.long name) k replies goes step none = let e : _ ∷ items_of_replies replies ≡ [] = none in cc
goes_with_item t u between (steps.positional word) k replies goes step none = let e : spec.positional word ∷ items_of_replies replies ≡ [] = none in cc
goes_with_item t u between (steps.taken word) k replies goes step none = next_found u between (steps.taken word) (λ is. is) (λ same. let e : steps.taken word ≡ steps.no_memory = same in cc) step
goes_with_item t u between (steps.maybe word) k replies goes step none = next_found u between (steps.maybe word) (λ is. is) (λ same. let e : steps.maybe word ≡ steps.no_memory = same in cc) step
goes_with_item t u between (steps.items words) k replies goes step none = next_found u between (steps.items words) (λ is. is) (λ same. let e : steps.items words ≡ steps.no_memory = same in cc) step
goes_with_item t u between r k replies goes step none = absurd goes

last_next : (t : Table) (u after : UnreadLine) (final : Reply) (k : Kind) (calls : List Call) (replies : List Reply) → k ≡ flag → AskedAfter t final k calls replies → Run u calls replies after
    → items_of_replies replies ≡ [] → (there : UnreadLine) × Next u final there
last_next t u after final k calls replies is (last k' call due ends) run none = (run.0, subst (λ c. Step c u final run.0) (subst (λ (x : Kind). IsDue x call) is due) run.1)
last_next t u after final k calls replies is (more k' l call reply calls' replies' due full goes asked) run none =
    absurd (goes_with_item t u run.0 reply l replies' goes (subst (λ c. Step c u reply run.0) (subst (λ (x : Kind). IsDue x call) is due) run.1) none)

-- it is one call of `next`, which returns the last reply
nothing_given : (t : Table) (u : UnreadLine) (final : Reply) (items : List Item) → items ≡ [] → IsReading t u final items → (there : UnreadLine) × Next u final there
nothing_given t u final items none reading = last_next t u reading.after final flag reading.calls reading.replies refl reading.asked reading.run (sym reading.items_are ∙ none)

no_missing : (t : Table) (u : UnreadLine) (final : Reply) (items : List Item) → IsReading t u final items → (option : List ℕ) → final ≡ steps.missing (Some option) → items ≡ [] → ⊥
no_missing t u final items reading option is none =
    let found = nothing_given t u final items none reading in
    next_found u found.0 final (λ kind. subst IsNextReply is kind) (λ same. let e : steps.missing (Some option) ≡ steps.no_memory = sym is ∙ same in cc) found.1

-- ---- a line that stops at a mistake

all_but_last_of : (l : List Parsed) (s : Parsed) (k : List Parsed) → all_but_last (l ++ s ∷ k) ≡ l ++ all_but_last (s ∷ k)
all_but_last_of [] s k = refl
all_but_last_of (a ∷ []) s k = refl
all_but_last_of (a ∷ b ∷ l) s k = ap (λ m. a ∷ m) (all_but_last_of (b ∷ l) s k)

-- before a mistake, at most the last thing is left out
kept_before : (m : Mistake) (l : List Parsed) (s : Parsed) (k : List Parsed) → (later : List Parsed) × (parsed_before m (l ++ s ∷ k) ≡ l ++ later)
kept_before (unexpected_value name value) l s k = (all_but_last (s ∷ k), all_but_last_of l s k)
kept_before (unknown_option name tail) l s k = (s ∷ k, refl)
kept_before (missing_value index option) l s k = (s ∷ k, refl)
kept_before (invalid_value index value) l s k = (s ∷ k, refl)
kept_before (unexpected_argument word) l s k = (s ∷ k, refl)
kept_before (invalid_argument index word) l s k = (s ∷ k, refl)
kept_before (missing_argument count) l s k = (s ∷ k, refl)
kept_before (missing_option index) l s k = (s ∷ k, refl)
kept_before (exclusive_options index other) l s k = (s ∷ k, refl)

-- nothing is left out if something is missing at the end
all_at_end : (d : Declaration) (l : List Parsed) (m : Mistake) → IsMissing d l m → parsed_before m l ≡ l
all_at_end d l m (lacks_argument m_is few) = ap (λ x. parsed_before x l) m_is
all_at_end d l m (refuses_word index word m_is enough unfit) = ap (λ x. parsed_before x l) m_is
all_at_end d l m (lacks_option index m_is enough taken first) = ap (λ x. parsed_before x l) m_is
all_at_end d l m (excludes_option index other m_is enough taken complete first) = ap (λ x. parsed_before x l) m_is

-- nothing is left out after an option that asks, since that has no joined value
all_before : (d : Declaration) (words : List (List ℕ)) (a : Asked) (ask : AskFor d words a) (l : List Parsed) (m : Mistake) (final : Reply) (ms ns : List Item) → ms ≡ ns
    → IsReading (table d.options) ask.there final ns → Left d l m final ms → parsed_before m l ≡ l
all_before d words a ask l m final ms ns is reading (undeclared_first name tail item rest m_is are of none) = ap (λ x. parsed_before x l) m_is
all_before d words a ask l m final ms ns is reading (flag_value option value m_is final_is are) =
    let found = nothing_given (table d.options) ask.there final ns (sym is ∙ are) reading in
    absurd (ask.no_value option value found.0 (subst (λ r. Next ask.there r found.0) final_is found.1))
all_before d words a ask l m final ms ns is reading (valueless name index option m_is final_is are found) = ap (λ x. parsed_before x l) m_is
all_before d words a ask l m final ms ns is reading (refused_first item s index value rest m_is are parsed of refused) = ap (λ x. parsed_before x l) m_is
all_before d words a ask l m final ms ns is reading (no_room word rest m_is are limit) = ap (λ x. parsed_before x l) m_is
all_before d words a ask l m final ms ns is reading (at_end lacks final_is are) = all_at_end d l m lacks

asked_before : (d : Declaration) (words : List (List ℕ)) (l : List Parsed) (m : Mistake) (a : Asked) (stops : StopsAt d words l m) (ask : AskFor d words a) (final : Reply) (ms ns : List Item)
    → are_accepted d.options (asking ask) ≡ true → Left d l m final ms → IsReading (table d.options) ask.there final ns → Compared stops.read.items ask.read.items ms ns
    → first_asked d.options (parsed_before m l) ≡ Some a
asked_before d words l m a stops ask final ms ns accepted left reading (same front back) =
    let lists : l ≡ asking ask = same_somes l (asking ask) (sym stops.read.parsed ∙ ap (map (parsed_item d.options)) front ∙ ask.read.parsed) in
    ap (first_asked d.options) (all_before d words a ask l m final ms ns back reading left ∙ lists) ∙ asked_alone d words a ask
asked_before d words l m a stops ask final ms ns accepted left reading (shorter x rest front back) =
    absurd (not_shorter d l (asking ask) m final stops.read.items ms ns x rest stops.read.parsed (subst (λ s. map (parsed_item d.options) s ≡ map (λ s. Some s) (asking ask)) front ask.read.parsed)
    ask.read.within accepted back left (no_missing (table d.options) ask.there final ns reading))
asked_before d words l m a stops ask final ms ns accepted left reading (longer x rest front back) =
    let later = split (parsed_item d.options) ask.read.items (x ∷ rest) (asking ask) l ask.read.parsed (sym (ap (map (parsed_item d.options)) front) ∙ stops.read.parsed) in
    more_before later.later later.are later.all_are
  where
    more_before : (later : List Parsed) → map (parsed_item d.options) (x ∷ rest) ≡ map (λ s. Some s) later → l ≡ asking ask ++ later → first_asked d.options (parsed_before m l) ≡ Some a
    more_before [] are all_are = absurd (let e : parsed_item d.options x ∷ map (parsed_item d.options) rest ≡ [] = are in cc)
    more_before (s ∷ k) are all_are =
        let kept = kept_before m (asking ask) s k in
        ap (λ z. first_asked d.options (parsed_before m z)) all_are ∙ ap (first_asked d.options) kept.1 ∙ asked_with d words a ask kept.0

pub asked_of_stop : (d : Declaration) (words : List (List ℕ)) (l : List Parsed) (m : Mistake) (a : Asked) → StopsAt d words l m → AskFor d words a
    → first_asked d.options (parsed_before m l) ≡ Some a
asked_of_stop d words l m a stops ask =
    let t = table d.options in
    let left = left_of d l stops.there m stops.read.line stops.stops in
    let one = some_reading t ask.there ask.read.line in
    let both = no_other_reading t (start d.short_equals words) left.final one.0 (stops.read.items ++ left.items) (ask.read.items ++ one.1)
    (says_items t (start d.short_equals words) stops.there stops.read.items stops.read.read left.final left.items left.reading)
    (says_items t (start d.short_equals words) ask.there ask.read.items ask.read.read one.0 one.1 one.2) in
    asked_before d words l m a stops ask left.final left.items one.1 ask.accepted left.left (subst (λ f. IsReading t ask.there f one.1) (sym both.0) one.2)
    (compared stops.read.items ask.read.items left.items one.1 both.1)
