-- Lists of calls of which only a part was made.
use Rattle.std.proofs.Common.{◌≡◌, ℕ, ◌≤◌, List, [], ◌∷◌, ◌++◌, ap, sym, subst, ◌∙◌, append_assoc, inl, inr, arith, min, ◌⊎◌, refl}
use Rattle.lexopt_spec.specs.UnreadLine.{UnreadLine}
use Rattle.lexopt_spec.specs.Steps.{Reply}
use Rattle.lexopt_spec.specs.Runs.{Call, values, raw, try_raw, Step, Run, Part, up_to}
use Rattle.lexopt_line_spec.proofs.Accounts.{IsSuffix, words_after}
use Rattle.lexopt_line_spec.proofs.RunAccounts.{step_suffix}

part_none : (u v : UnreadLine) (calls : List Call) → v ≡ u → Part u calls v
part_none u v [] is = is
part_none u v (c ∷ cs) is = inl is

-- some calls were made, and none of the others
pub part_front : (u v : UnreadLine) (calls more : List Call) (replies : List Reply) → Run u calls replies v → Part u (calls ++ more) v
part_front u v [] more [] run = part_none u v more run
part_front u v [] more (r ∷ rs) run = absurd run
part_front u v (c ∷ cs) more [] run = absurd run
part_front u v (c ∷ cs) more (r ∷ rs) run = inr (inr (run.0, r, run.1, part_front run.0 v cs more rs run.2))

-- some calls were made, and then the next one with some of its items
pub part_cut : (u v w : UnreadLine) (calls more : List Call) (replies : List Reply) (call : Call) (m : ℕ) (reply : Reply)
    → Run u calls replies v → Step (up_to m call) v reply w → Part u (calls ++ call ∷ more) w
part_cut u v w [] more [] call m reply run step = inr (inl (m, reply, subst (λ (l : UnreadLine). Step (up_to m call) l reply w) run step))
part_cut u v w [] more (r ∷ rs) call m reply run step = absurd run
part_cut u v w (c ∷ cs) more [] call m reply run step = absurd run
part_cut u v w (c ∷ cs) more (r ∷ rs) call m reply run step = inr (inr (run.0, r, run.1, part_cut run.0 v w cs more rs call m reply run.2 step))

pub up_to_values : (m n : ℕ) → m ≤ n → up_to m (values n) ≡ values m
up_to_values m n few = ap values (let e : min m n ≡ m = omega arith in e)

pub up_to_raw : (m n : ℕ) → m ≤ n → up_to m (raw n) ≡ raw m
up_to_raw m n few = ap raw (let e : min m n ≡ m = omega arith in e)

pub up_to_try_raw : (m n : ℕ) → m ≤ n → up_to m (try_raw n) ≡ try_raw m
up_to_try_raw m n few = ap try_raw (let e : min m n ≡ m = omega arith in e)

-- the next call was not made, or made with some of its items
abbrev pub IsCut : UnreadLine → List Call → UnreadLine → Type 0
IsCut w more v = (v ≡ w) ⊎ ((call : Call) × (others : List Call) × (m : ℕ) × (reply : Reply) × (more ≡ call ∷ others) × Step (up_to m call) w reply v)

-- a part of a list is always of one of these two forms
pub part_means : (u v : UnreadLine) (calls : List Call) → Part u calls v
    → (front : List Call) × (more : List Call) × (replies : List Reply) × (w : UnreadLine) × Run u front replies w × (calls ≡ front ++ more) × IsCut w more v
part_means u v [] is = ([], [], [], u, refl, refl, inl is)
part_means u v (c ∷ cs) (inl is) = ([], c ∷ cs, [], u, refl, refl, inl is)
part_means u v (c ∷ cs) (inr (inl part)) = ([], c ∷ cs, [], u, refl, refl, inr (c, cs, part.0, part.1, refl, part.2))
part_means u v (c ∷ cs) (inr (inr part)) =
    let more = part_means part.0 v cs part.3 in
    (c ∷ more.0, more.1, part.1 ∷ more.2, more.3, (part.0, part.2, more.4), ap (λ l. c ∷ l) more.5, more.6)

-- the words left are a suffix of those at the start, whichever part was made
pub part_suffix : (u v : UnreadLine) (calls : List Call) → Part u calls v → IsSuffix u v
part_suffix u v [] is = ([], words_after v _ is)
part_suffix u v (c ∷ cs) (inl is) = ([], words_after v _ is)
part_suffix u v (c ∷ cs) (inr (inl part)) = step_suffix (up_to part.0 c) u part.1 v part.2
part_suffix u v (c ∷ cs) (inr (inr part)) =
    let first = step_suffix c u part.1 part.0 part.2 in
    let more = part_suffix part.0 v cs part.3 in
    (first.0 ++ more.0, first.1 ∙ ap (λ l. first.0 ++ l) more.1 ∙ sym (append_assoc first.0 more.0 v.words))
