-- A command with one option more.
use Rattle.std.proofs.Common.{◌≡◌, ◌∙◌, ap₂, false}
use Rattle.clap.specs.Words.{AddsArg, App, Rule, app_of, rule_of, with_rule}
use Rattle.clap.specs.declared.builder.arg.Arg.{Arg}
use Rattle.clap.specs.declared.builder.command.Command.{Command}

pub added : (old new : Command) (arg : Arg) → AddsArg old arg new → arg.global ≡ false
    → {a : App} → app_of old ≡ a → {r : Rule} → rule_of arg ≡ r → app_of new ≡ with_rule a r
added old new arg adds local before rule = adds.shape local ∙ ap₂ with_rule before rule
