-- The keys of what was read before a mistake.
use Rattle.lexopt_options.proofs.Common.{◌≤◌, ℕ, zero, suc, List, [], ◌∷◌, take, sym, subst, arith, all_but_last, parsed_before, IsWithin, most, positional_count, Positional, Options, declaration_of}
use Rattle.lexopt_options.proofs.Common.{options_of, positionals_of, AllFirst, AreParsedAs, CanHaveKeys, positional_keys}
use Rattle.std.proofs.Math.Seq.{take-nil}
use Rattle.lexopt_options_spec.specs.Legal as legal
use Rattle.lexopt_options_spec.specs.Stops as stops
use Rattle.lexopt_options.specs.declared.parsed.Parsed.{Parsed}
use Rattle.lexopt_options.specs.declared.parsed.Parsed.TheVariants as parsed
use Rattle.lexopt_options_spec.proofs.Taken.{less_within}
use Rattle.lexopt_options.proofs.ReadKeys.{keys_count}

no_more : (l : List legal.Parsed) → positional_count (all_but_last l) ≤ positional_count l
no_more (s ∷ t ∷ l) = let rest = no_more (t ∷ l) in omega (arith, rest)
no_more l = omega arith

before_fewer : (why : stops.Mistake) (l : List legal.Parsed) → positional_count (parsed_before why l) ≤ positional_count l
before_fewer (stops.unexpected_value option value) l = no_more l
before_fewer why l = omega arith

pub can_have_before : {F V P M S : Type 0} (o : Options F V P M S) (l : List legal.Parsed) (why : stops.Mistake) (xs : List (Parsed F V P M S)) → IsWithin (positional_count l) (most (declaration_of o).positionals)
    → AreParsedAs (options_of o) (parsed_before why l) xs → AllFirst (positionals_of o) (positional_keys xs) → CanHaveKeys (positionals_of o) xs
can_have_before o l why xs within are first = record {
  within = subst (λ n. IsWithin n (most (declaration_of o).positionals)) (sym (keys_count (options_of o) (parsed_before why l) xs are))
      (less_within (most (declaration_of o).positionals) (positional_count (parsed_before why l)) (positional_count l) (before_fewer why l) within);
  firsts = first;
}

pub can_have : {F V P M S : Type 0} (o : Options F V P M S) (l : List legal.Parsed) (xs : List (Parsed F V P M S)) → IsWithin (positional_count l) (most (declaration_of o).positionals)
    → AreParsedAs (options_of o) l xs → AllFirst (positionals_of o) (positional_keys xs) → CanHaveKeys (positionals_of o) xs
can_have o l xs within are first = record {
  within = subst (λ n. IsWithin n (most (declaration_of o).positionals)) (sym (keys_count (options_of o) l xs are)) within;
  firsts = first;
}

-- the keys of a prefix
pub first_kept : {F V P M S : Type 0} (positionals : List (Positional P)) (n : ℕ) (xs : List (Parsed F V P M S)) → AllFirst positionals (positional_keys xs) → AllFirst positionals (positional_keys (take n xs))
first_kept {F} {V} {P} {M} {S} positionals n [] first = subst (λ (l : List (Parsed F V P M S)). AllFirst positionals (positional_keys l)) (sym (take-nil n)) tt
first_kept positionals zero (x ∷ xs) first = tt
first_kept positionals (suc n) (parsed.Positional key word ∷ xs) first = (first.0, first_kept positionals n xs first.1)
first_kept positionals (suc n) (x ∷ xs) first = first_kept positionals n xs first
