-- The help of a program with commands.
use Rattle.lexopt_commands.proofs.Common.{◌≡◌, ◌<◌, ◌+◌, ◌++◌, ◌∷◌, [], ℕ, List, length, take, get_or, ap, sym, subst, ◌∙◌, append_assoc, IsEntry, set_apart, Command}
use Rattle.std.proofs.lemmas.List.{take_more}
use Rattle.lexopt_options_spec.proofs.Wrapping.{Listed, one_listed}

-- the text has the entries of these commands
abbrev pub AreEntries : {C : Type 0} → ℕ → List (Command C) → List ℕ → Type 0
AreEntries width commands text = Listed (λ (c : Command _). IsEntry width c.name.now c.help.now) (λ (entry : List ℕ). entry) [] commands text

-- after one more entry
pub entry_more : {C : Type 0} (width : ℕ) (commands : List (Command C)) (i : ℕ) (c : Command C) (text new entry : List ℕ) → i < length commands → c ≡ get_or commands i c
    → AreEntries width (take i commands) text → IsEntry width c.name.now c.help.now entry → new ≡ text ++ entry → AreEntries width (take (i + 1) commands) new
entry_more width commands i c text new entry within is had own same =
    subst (λ cs. AreEntries width cs new) (sym (take_more commands i c within ∙ ap (λ x. take i commands ++ x ∷ []) (sym is)))
    (subst (λ bs. AreEntries width (take i commands ++ c ∷ []) bs) (sym same) (one_listed (λ (x : Command _). IsEntry width x.name.now x.help.now) (λ (e : List ℕ). e) [] (take i commands) text c entry had own))

pub appended : (old part text new : List ℕ) → new ≡ old ++ set_apart part → part ≡ text → new ≡ old ++ set_apart text
appended old part text new e f = e ∙ ap (λ l. old ++ set_apart l) f

-- the parts, one after another
pub in_parts : (usage about commands options epilogue two three four five : List ℕ) → two ≡ usage ++ about → three ≡ two ++ commands → four ≡ three ++ options → five ≡ four ++ epilogue
    → five ≡ usage ++ about ++ commands ++ options ++ epilogue
in_parts usage about commands options epilogue two three four five e f g h =
    h ∙ ap (λ l. l ++ epilogue) (g ∙ ap (λ l. l ++ options) (f ∙ ap (λ l. l ++ commands) e)) ∙ simp append_assoc
