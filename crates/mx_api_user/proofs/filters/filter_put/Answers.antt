use Rattle.std.proofs.Common.{◌∙◌, sym}
use Rattle.mx_api_user.specs.Filters.{inline_in}
use Rattle.mx_ask.specs.declared.ask.Ask.TheVariants as ask
use Rattle.mx_api_user.proofs.Judged.{refused_none, refused_some}
use Rattle.mx_api_user.proofs.filters.filter_put.Goals as goal

pub returns-in-Ok-None-clause-asked : goal.returns-in-Ok-None-clause-asked
returns-in-Ok-None-clause-asked c = refused_none (inline_in c.args.filter) c.args.who (ask.PutFilter c.args.filter) (sym c.in-Ok-None.field-0-is ∙ c.in-Ok-None.ensures)

pub returns-in-Ok-Some-clause-asked : goal.returns-in-Ok-Some-clause-asked
returns-in-Ok-Some-clause-asked c = refused_some (inline_in c.args.filter) c.args.who (ask.PutFilter c.args.filter) c.in-Ok-Some.refused (sym c.in-Ok-Some.field-0-is ∙ c.in-Ok-Some.ensures)
