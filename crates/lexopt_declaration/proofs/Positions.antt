-- The first option that passes a test.
use Rattle.lexopt_declaration.proofs.Common.{◌≡◌, ◌+◌, Bool, not, nat_lt, List, [], ◌∷◌, map, length, position, Some, None, cond, refl, sym, ap, ◌∙◌, position_or_len}
use Rattle.lexopt_declaration.proofs.Common.{length-map, Declared, option_view}
use Rattle.lexopt_options_spec.specs.Declaration as spec

same_place : {F V M S : Type 0} (p : spec.Declared → Bool) (os : List (Declared F V M S)) → position_or_len (λ o. p (option_view o)) os ≡ position_or_len p (map option_view os)
same_place p [] = refl
same_place p (o ∷ os) = ap (λ n. cond (not (p (option_view o))) (1 + n) 0) (same_place p os)

pub position_map : {F V M S : Type 0} (p : spec.Declared → Bool) (os : List (Declared F V M S)) → position (λ o. p (option_view o)) os ≡ position p (map option_view os)
position_map p os = ap (λ n. cond (nat_lt n (length os)) (Some n) None) (same_place p os)
    ∙ ap (λ m. cond (nat_lt (position_or_len p (map option_view os)) m) (Some (position_or_len p (map option_view os))) None) (sym (length-map os option_view))
