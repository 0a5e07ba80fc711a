use Rattle.std.proofs.Common.{sym, ap, ◌∙◌, ◌+◌, ◌==◌}
use Rattle.std.specs.List.{slice_split}
use Rattle.std.specs.Prelude.{ok_or, option_map}
use Rattle.mx_users.specs.UsersFile.{users_in, and_then, only_server, with_lines}
use Rattle.mx_users.proofs.Lines.{no_line, first_line, read_on}
use Rattle.mx_users.proofs.users_file.read_file.Goals as goal

pub returns-then-is_empty : goal.returns-then-is_empty
unfolding users_in
returns-then-is_empty c =
    c.skip_empty-before.ensures.lines ∙ no_line c.skip_empty-before.result.0 c.skip_empty-before.result.1.now (sym c.is_empty.ensures ∙ c.if-is_empty.true)

pub returns-in_default : goal.returns-in_default
unfolding users_in
returns-in_default c =
    let skipped = c.skip_empty-before in
    let n = skipped.result.0 in
    let line = c.cut_line in
    let first = first_line n skipped.result.1.now line.result.0.now line.result.1.now (sym c.is_empty.ensures ∙ c.if-is_empty.false) skipped.ensures.full line.ensures.before line.ensures.after in
    let none = sym c.server_in.ensures ∙ ap (option_map (λ s. s.now)) c.in_default.is in
    skipped.ensures.lines ∙ first ∙ ap (λ o. and_then (λ server. with_lines (only_server server) (n + 1) (slice_split (λ c. c == 10) line.result.1.now)) (ok_or o (n + 1))) none

pub returns : goal.returns
unfolding users_in
returns c =
    let skipped = c.skip_empty-before in
    let n = skipped.result.0 in
    let line = c.cut_line in
    let first = first_line n skipped.result.1.now line.result.0.now line.result.1.now (sym c.is_empty.ensures ∙ c.if-is_empty.false) skipped.ensures.full line.ensures.before line.ensures.after in
    let found = sym c.server_in.ensures ∙ ap (option_map (λ s. s.now)) c.in-Some.is in
    read_on _ n _ c.in-Some.server.now c.in_ok-text_of.field-0 c.new-list.result.users (slice_split (λ c. c == 10) line.result.1.now) (λ l. l.users) c.read_lines.result (skipped.ensures.lines ∙ first) found c.in_ok-text_of.ensures c.new-list.ensures
    c.read_lines.ensures
