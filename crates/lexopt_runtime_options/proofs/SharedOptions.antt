-- Options with other keys.
use Rattle.std.proofs.Common.{◌≡◌, ◌<◌, ◌+◌, ℕ, List, [], ◌∷◌, ◌++◌, append_assoc, get_or, length, map, take, refl, sym, ap, ◌∙◌}
use Rattle.std.proofs.lemmas.List.{map-append, take_more}
use Rattle.lexopt_options_spec.specs.Declaration as spec
use Rattle.lexopt_declaration.specs.declared.declaration.Declared.{Declared}
use Rattle.lexopt_declaration.specs.declared.declaration.Kind.{Kind}
use Rattle.lexopt_declaration.specs.declared.declaration.Kind.TheVariants as kind
use Rattle.lexopt_declaration.specs.Models.{asked_of, kind_of, option_view, placeholder_of}
use Rattle.lexopt_runtime_options.specs.declared.shared.Key.{Key}
use Rattle.lexopt_runtime_options.specs.Shared.{own_option, shared_option, with_keys, with_kind}

-- ---- the view of an option does not depend on its keys

kinds : {F V M S A B C D : Type 0} (f : F → A) (v : V → B) (m : M → C) (s : S → D) (k : Kind F V M S) → kind_of (with_keys f v m s k) ≡ kind_of k
kinds f v m s (kind.Flag key) = refl
kinds f v m s (kind.Value key placeholder) = refl
kinds f v m s (kind.Maybe key placeholder) = refl
kinds f v m s (kind.Values key placeholder) = refl
kinds f v m s kind.Help = refl
kinds f v m s kind.BriefHelp = refl
kinds f v m s (kind.Version text) = refl

placeholders : {F V M S A B C D : Type 0} (f : F → A) (v : V → B) (m : M → C) (s : S → D) (k : Kind F V M S) → placeholder_of (with_keys f v m s k) ≡ placeholder_of k
placeholders f v m s (kind.Flag key) = refl
placeholders f v m s (kind.Value key placeholder) = refl
placeholders f v m s (kind.Maybe key placeholder) = refl
placeholders f v m s (kind.Values key placeholder) = refl
placeholders f v m s kind.Help = refl
placeholders f v m s kind.BriefHelp = refl
placeholders f v m s (kind.Version text) = refl

requests : {F V M S A B C D : Type 0} (f : F → A) (v : V → B) (m : M → C) (s : S → D) (k : Kind F V M S) → asked_of (with_keys f v m s k) ≡ asked_of k
requests f v m s (kind.Flag key) = refl
requests f v m s (kind.Value key placeholder) = refl
requests f v m s (kind.Maybe key placeholder) = refl
requests f v m s (kind.Values key placeholder) = refl
requests f v m s kind.Help = refl
requests f v m s kind.BriefHelp = refl
requests f v m s (kind.Version text) = refl

same_view : {F V M S A B C D : Type 0} (f : F → A) (v : V → B) (m : M → C) (s : S → D) (o : Declared F V M S) → option_view (with_kind o (with_keys f v m s o.kind)) ≡ option_view o
same_view f v m s o = rw (kinds f v m s o.kind, placeholders f v m s o.kind, requests f v m s o.kind) refl

same_views : {X Y : Type 0} (view : Y → spec.Declared) (own : X → spec.Declared) (f : X → Y) → ((x : X) → view (f x) ≡ own x) → (xs : List X) → map view (map f xs) ≡ map own xs
same_views view own f same [] = refl
same_views view own f same (x ∷ xs) = rw (same x, same_views view own f same xs) refl

-- options of a declaration's own, and of a group that it shares
pub views_are : {F V M S G W N T : Type 0} (xs : List (Declared F V M S)) (ys : List (Declared G W N T)) (os : List (Declared (Key F G) (Key V W) (Key M N) (Key S T)))
    → os ≡ map own_option xs ++ map shared_option ys → map option_view os ≡ map option_view xs ++ map option_view ys
views_are {F} {V} {M} {S} {G} {W} {N} {T} xs ys os are =
    let own : Declared F V M S → Declared (Key F G) (Key V W) (Key M N) (Key S T) = own_option in
    let shared : Declared G W N T → Declared (Key F G) (Key V W) (Key M N) (Key S T) = shared_option in
    ap (map option_view) are ∙ map-append option_view (map own xs) (map shared ys)
    ∙ ap (λ l. l ++ map option_view (map shared ys)) (same_views option_view option_view own (same_view _ _ _ _) xs)
    ∙ ap (λ l. map option_view xs ++ l) (same_views option_view option_view shared (same_view _ _ _ _) ys)

-- ---- the loops that put the options together

-- one more option with other keys
pub one_more : {X Y : Type 0} (f : X → Y) (xs : List X) (i : ℕ) (x : X) (y : Y) (before old new : List Y) → i < length xs → x ≡ get_or xs i x → y ≡ f x → new ≡ old ++ y ∷ []
    → old ≡ before ++ map f (take i xs) → new ≡ before ++ map f (take (i + 1) xs)
one_more f xs i x y before old new within is made added inv =
    let last = ap (map f) (take_more xs i x within) ∙ map-append f (take i xs) (get_or xs i x ∷ []) in
    added ∙ ap (λ l. l ++ y ∷ []) inv ∙ append_assoc before (map f (take i xs)) (y ∷ [])
    ∙ ap (λ l. before ++ l) (ap (λ z. map f (take i xs) ++ z ∷ []) (made ∙ ap f is) ∙ sym last)
