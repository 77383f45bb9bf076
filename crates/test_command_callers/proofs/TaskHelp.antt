-- The help of three commands, by the clause of `Commands::help`.
use Rattle.std.proofs.Common.{◌≡◌, ℕ, List, [], ◌∷◌, map, subst}
use Rattle.std.specs.List.{AllZip}
use Rattle.lexopt_options_spec.specs.Declaration.{Declaration, full}
use Rattle.lexopt_options_spec.specs.Help.{IsEntry}
use Rattle.lexopt_commands.specs.declared.command.Command.{Command}
use Rattle.lexopt_commands.specs.Help.{IsHelp}
use Rattle.test_command_callers.specs.declared.commands.Task.{Task}
use Rattle.test_command_callers.specs.Tasks.{IsTaskHelp, task_helps}

-- the name of a command, and its line in the help
abbrev pub name_and_help : Command Task → List ℕ × List ℕ
name_and_help c = (c.name.now, c.help.now)

entries_so : (width : ℕ) (commands : List (Command Task)) (texts : List (List ℕ)) → AllZip (λ (c : Command Task). IsEntry width c.name.now c.help.now) commands texts
    → AllZip (λ (p : List ℕ × List ℕ). IsEntry width p.0 p.1) (map name_and_help commands) texts
entries_so width [] [] zip = zip
entries_so width [] (t ∷ ts) zip = zip
entries_so width (c ∷ cs) [] zip = zip
entries_so width (c ∷ cs) (t ∷ ts) zip = (zip.0, entries_so width cs ts zip.1)

pub task_help : (d own : Declaration) (commands : List (Command Task)) (width : ℕ) (text : List ℕ) → d ≡ own → map name_and_help commands ≡ task_helps → IsHelp full d commands width text → IsTaskHelp own width text
task_help d own commands width text same are is = subst (λ x. IsTaskHelp x width text) same (record {
  usage = is.usage;
  about = is.about;
  commands = is.commands;
  options = is.options;
  epilogue = is.epilogue;
  usage_first = is.usage_first;
  about_next = is.about_next;
  each_command = subst (λ ps. AllZip (λ (p : List ℕ × List ℕ). IsEntry width p.0 p.1) ps is.commands) are (entries_so width commands is.commands is.each_command);
  each_option = is.each_option;
  each_paragraph = is.each_paragraph;
  written = is.written;
})
