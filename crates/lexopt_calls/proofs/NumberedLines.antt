-- The lines of a script as `split` and `enumerate` yield them.
use Rattle.std.proofs.Common.{◌≡◌, ℕ, ◌<◌, ◌≤◌, ◌==◌, List, length, get_or, Option, Some, None, ap, ◌∙◌, arith, zero-add}
use Rattle.std.specs.Iterator.{Yields}
use Rattle.std.specs.List.{enumerate_from, slice_split}
use Rattle.std.proofs.lemmas.Iterator.{YieldsList}
use Rattle.std.proofs.lemmas.Iterator.Consumers.{YieldsList-turn, YieldsList-end}
use Rattle.std.proofs.lemmas.List.FromFn.{length-enumerate_from, get_or-enumerate_from}
use Rattle.lexopt_calls.specs.Script.{newline, lines_of}

abbrev pub numbered_lines : List ℕ → List (ℕ × List ℕ)
numbered_lines script = enumerate_from 0 (slice_split (λ b. b == newline) script)

-- `line` comes after `n` other lines, and `n` is its index
pub record IsLineAt (script : List ℕ) (n index : ℕ) (line : List ℕ) : Type 0 where
  pub within : n < length (lines_of script)
  pub is : line ≡ get_or (lines_of script) n line
  pub index_is : index ≡ n

-- an item of the loop over the numbered lines
pub line_read : {S A : Type 0} {steps : S → Option A → S → Type 0} {v : A → ℕ × List ℕ} {s : S} (script : List ℕ) (xs : List A) (t : S) → Yields steps s xs t
    → (r : Option A) (u : S) (x : A) → r ≡ Some x → steps t r u → YieldsList steps v s (numbered_lines script) → IsLineAt script (length xs) (v x).0 (v x).1
line_read {v = v} script xs t so_far r u x is step all =
    let parts = slice_split (λ b. b == newline) script in
    let turn = YieldsList-turn all xs t so_far r u x is step in
    let within : length xs < length parts = omega (arith, length-enumerate_from 0 parts) in
    let pair = turn.1 ∙ get_or-enumerate_from 0 parts (length xs) (v x) within in
    record {
      within = omega (arith);
      is = ap (λ (p : ℕ × List ℕ). p.1) pair;
      index_is = ap (λ (p : ℕ × List ℕ). p.0) pair ∙ zero-add (length xs);
    }

-- the end of the loop over the numbered lines
pub lines_read : {S A : Type 0} {steps : S → Option A → S → Type 0} {v : A → ℕ × List ℕ} {s : S} (script : List ℕ) (xs : List A) (t : S) → Yields steps s xs t
    → (r : Option A) (u : S) → r ≡ None → steps t r u → YieldsList steps v s (numbered_lines script) → length (lines_of script) ≤ length xs
lines_read script xs t so_far r u is step all =
    let parts = slice_split (λ b. b == newline) script in
    omega (arith, (YieldsList-end all xs t so_far r u is step).1, length-enumerate_from 0 parts)
