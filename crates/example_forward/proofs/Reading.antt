-- A shell reads a quoted word back, if it holds no byte 00.
use Rattle.std.proofs.Common.{◌≡◌, ◌≢◌, ℕ, suc, Bool, true, false, ◌==◌, List, [], ◌∷◌, ◌++◌, codes, refl, arith, if◌then◌else◌, append_assoc}
use Rattle.std.specs.List.{flat_map, list_all, Contains}
use Rattle.std.proofs.lemmas.Bool.{eqb-true, eqb-false, and_parts}
use Rattle.example_forward.specs.Shell.{quote, nul, is_plain, Reads, at_end, plain, escaped, opening, quoted_byte, closing, IsReadAs, in_quotes, needs_none, quoted}

plain_word : (word : List ℕ) → list_all is_plain word ≡ true → Reads false word word
plain_word [] all = at_end
plain_word (b ∷ bs) all =
    let both = and_parts (is_plain b) (list_all is_plain bs) all in
    plain b bs bs both.0 (plain_word bs both.1)

no_first : (b : ℕ) (bs : List ℕ) → ¬ Contains (b ∷ bs) nul → b ≢ nul
no_first b bs none is = none (0, omega arith, is)

no_more : (b : ℕ) (bs : List ℕ) → ¬ Contains (b ∷ bs) nul → ¬ Contains bs nul
no_more b bs none has = none (suc has.0, omega (arith, has.1), has.2)

byte_in_quotes : (b : ℕ) (is_quote : Bool) (bytes word : List ℕ) → (b == quote) ≡ is_quote → b ≢ nul → Reads true bytes word
    → Reads true ((if is_quote then codes "'\\''" else b ∷ []) ++ bytes) (b ∷ word)
byte_in_quotes b true bytes word is some reads =
    rw (eqb-true b quote is) (closing _ _ (escaped quote _ _ (λ e. omega (arith, e)) (λ e. omega (arith, e)) (opening bytes word reads)))
byte_in_quotes b false bytes word is some reads = quoted_byte b bytes word (eqb-false b quote is) some reads

word_in_quotes : (word : List ℕ) → ¬ Contains word nul → Reads true (flat_map in_quotes word ++ (quote ∷ [])) word
word_in_quotes [] none = closing [] [] at_end
word_in_quotes (b ∷ bs) none =
    rw (append_assoc (in_quotes b) (flat_map in_quotes bs) (quote ∷ []))
    (byte_in_quotes b (b == quote) _ _ refl (no_first b bs none) (word_in_quotes bs (no_more b bs none)))

quoted_or_not : (as_it_is : Bool) (word : List ℕ) → needs_none word ≡ as_it_is → ¬ Contains word nul
    → IsReadAs (if as_it_is then word else quote ∷ (flat_map in_quotes word ++ (quote ∷ []))) word
quoted_or_not true [] is none = absurd (let e : false ≡ true = is in cc)
quoted_or_not true (b ∷ bs) is none = record { some = (λ e. cc); reads = plain_word (b ∷ bs) is }
quoted_or_not false word is none = record { some = (λ e. cc); reads = opening _ _ (word_in_quotes word none) }

pub read_back : (bytes word : List ℕ) → bytes ≡ quoted word → ¬ Contains word nul → IsReadAs bytes word
read_back bytes word is none = rw is (quoted_or_not (needs_none word) word refl none)
