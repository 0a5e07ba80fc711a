use Rattle.std.proofs.Common.{◌≡◌, List, rules, sym, subst, ◌∙◌}
use Rattle.std.proofs.lemmas.List.{nil_from_length}
use Rattle.std.proofs.lemmas.Result.{err_from_is_err_and}
use Rattle.mx_engine.specs.Shown.{site_of, stores_of}
use Rattle.mx_restore.specs.Made.{MakesLines}
use Rattle.mx_restore.specs.Wrongs.{IsUnmade}
use Rattle.mx_restore.specs.declared.reading.ReadLine.{ReadLine}
use Rattle.mx_restore.proofs.Taking.{line_made, no_lines_made}
use Rattle.mx_restore.proofs.Wrongs.{first_refused, later_refused}
use Rattle.mx_restore.proofs.restoring.Restoring.make_lines.Goals as goal

pub lines-init : goal.lines-init
lines-init g c =
    let site = site_of c.args.self.now.engine.now in
    let lists = stores_of c.args.pass.now in
    let far = c.args.far.now in
    let is : c.into_iter-line-iterator.result.rest.items ≡ c.args.lines.items = search rules in (
      c.requires.ties,
      λ after new k. subst (λ (ls : List ReadLine). MakesLines site.users ls far after lists new) is k,
      λ f k. subst (λ (ls : List ReadLine). IsUnmade site ls far lists f) is k,
      λ alone. alone,
    )

pub lines-preserved : goal.lines-preserved
lines-preserved g c =
    let l = c.lines in
    let site = site_of c.args.self.now.engine.now in
    let line = c.in-Some.line in
    let rest = c.next.new.self.rest.items in
    let far = c.make_line.new.far in
    let seen = stores_of c.make_line.new.pass in
    let made = c.in_ok-make_line.ensures in (
      made.ties,
      λ after new k. l.invariant.1 after new (subst (λ (ls : List ReadLine). MakesLines site.users ls l.far after (stores_of l.pass) new) (sym c.in-Some.ensures.steps.0)
          (line_made site.users line rest l.far far after (stores_of l.pass) seen new made.made k)),
      λ f k. l.invariant.2 f (subst (λ (ls : List ReadLine). IsUnmade site ls l.far (stores_of l.pass) f) (sym c.in-Some.ensures.steps.0)
          (later_refused site line rest l.far far (stores_of l.pass) seen f made.made k)),
      λ alone. made.alone (l.invariant.3 alone),
    )

pub returns-in_err-make_line-clause-wrong : goal.returns-in_err-make_line-clause-wrong
returns-in_err-make_line-clause-wrong g c =
    let l = c.lines in
    let site = site_of c.args.self.now.engine.now in
    let fault = c.in_err-make_line.field-0.0 in
    let p = err_from_is_err_and c.from_residual.result c.from_residual.ensures.1 in
    rw (p.1, p.2) (l.invariant.2 fault (subst (λ (ls : List ReadLine). IsUnmade site ls l.far (stores_of l.pass) fault) (sym c.in-Some.ensures.steps.0)
    (first_refused site c.in-Some.line c.next.new.self.rest.items l.far (stores_of l.pass) fault c.in_err-make_line.ensures.fault c.in_err-make_line.ensures.wrong)))

pub returns-in_err-make_line-clause-alone : goal.returns-in_err-make_line-clause-alone
returns-in_err-make_line-clause-alone g c = λ alone. c.make_line.ensures.alone (c.lines.invariant.3 alone)

pub returns-clause-alone : goal.returns-clause-alone
returns-clause-alone g c = c.lines.invariant.3

pub returns-clause-made : goal.returns-clause-made
returns-clause-made g c =
    let l = c.lines in
    let users = (site_of c.args.self.now.engine.now).users in
    l.invariant.1 l.far (stores_of l.pass)
    (subst (λ (ls : List ReadLine). MakesLines users ls l.far l.far (stores_of l.pass) (stores_of l.pass)) (sym (nil_from_length l.line-iterator.rest.items (sym l.line-iterator.rest.ok.0 ∙ c.in-None.ensures.steps.0)))
    (no_lines_made users l.far (stores_of l.pass)))
