use Rattle.std.proofs.Common.{◌≡◌, ◌++◌, ◌∙◌, List, ℕ, ap, subst, string_bytes}
use Rattle.std.specs.List.{AllZip}
use Rattle.lexopt_options_spec.specs.Help.{IsParagraph, set_apart}
use Rattle.lexopt_declaration.proofs.help.help.Goals as goal

appended : (old part text new : List ℕ) → new ≡ old ++ set_apart part → part ≡ text → new ≡ old ++ set_apart text
appended old part text new e f = e ∙ ap (λ l. old ++ set_apart l) f

-- the parts, one after another
in_parts : (usage about positionals options epilogue two three four five : List ℕ) → two ≡ usage ++ about → three ≡ two ++ positionals → four ≡ three ++ options → five ≡ four ++ epilogue
    → five ≡ usage ++ about ++ positionals ++ options ++ epilogue
in_parts usage about positionals options epilogue two three four five f g h i =
    i ∙ ap (λ l. l ++ epilogue) (h ∙ ap (λ l. l ++ options) (g ∙ ap (λ l. l ++ positionals) f))

pub returns : goal.returns
returns g c =
    let a = c.in_ok-push_paragraph.ensures in
    let ps = c.in_ok-positionals.ensures in
    let os = c.in_ok-push_options.ensures in
    let e = c.in_ok-push_epilogue.ensures in
    let positionals = appended _ _ _ _ c.in_ok-push_apart.ensures (c.as_str.ensures.value ∙ ps.2) in
    record {
      usage = string_bytes c.in_ok-text.text;
      about = a.0;
      positionals = ps.0;
      options = os.0;
      epilogue = e.0;
      usage_first = c.in_ok-text.ensures;
      about_next = a.1;
      each_positional = ps.1;
      each_option = os.1;
      each_paragraph = subst (λ l. AllZip (IsParagraph c.args.width) l e.0) c.shown_epilogue-epilogue.ensures e.1;
      written = in_parts _ a.0 _ _ _ _ _ _ _ a.2 positionals os.2 e.2;
    }
