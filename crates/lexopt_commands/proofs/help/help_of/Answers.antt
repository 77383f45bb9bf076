use Rattle.std.proofs.Common.{◌∙◌, string_bytes}
use Rattle.lexopt_commands.proofs.Entries.{appended, in_parts}
use Rattle.lexopt_commands.proofs.help.help_of.Goals as goal

pub returns : goal.returns
returns g c =
    let a = c.in_ok-push_paragraph.ensures in
    let cs = c.in_ok-entries.ensures in
    let os = c.in_ok-push_options.ensures in
    let e = c.in_ok-push_epilogue.ensures in
    let commands = appended _ _ _ _ c.in_ok-push_apart.ensures (c.as_str.ensures.value ∙ cs.2) in
    record {
      usage = string_bytes c.in_ok-text.text;
      about = a.0;
      commands = cs.0;
      options = os.0;
      epilogue = e.0;
      usage_first = c.in_ok-text.ensures;
      about_next = rw c.about.ensures at a.1;
      each_command = cs.1;
      each_option = rw c.options.ensures.view at os.1;
      each_paragraph = rw (c.shown_epilogue-epilogue.ensures, c.epilogue.ensures) at e.1;
      written = in_parts _ a.0 _ _ _ _ _ _ _ a.2 commands os.2 e.2;
    }
