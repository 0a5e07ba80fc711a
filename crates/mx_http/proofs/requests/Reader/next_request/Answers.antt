use Rattle.std.proofs.Common.{◌≡◌, ℕ, ◌+◌, List, drop, slice_range, refl, ap, ◌∙◌}
use Rattle.std.specs.Io.KnownBytes.{prepend_known}
use Rattle.std.proofs.KnownBytes.{Keeps-trans}
use Rattle.std.proofs.lemmas.Result.{err_from_is_err_and}
use Rattle.mx_http.specs.Parts.{HasParts}
use Rattle.mx_http.proofs.Reading.{given_parts, parts_now, body_failed, call_given}
use Rattle.mx_http.proofs.requests.Reader.next_request.Goals as goal

pub returns-in_err-fill_to-clause-reads : goal.returns-in_err-fill_to-clause-reads
returns-in_err-fill_to-clause-reads g c =
    let p = err_from_is_err_and c.from_residual-in_err-fill_to.result c.from_residual-in_err-fill_to.ensures.1 in
    let parts = c.in-Some.head in
    let held = c.fill_to.new.self in
    let found : HasParts c.fill_head.new.self parts = given_parts _ c.fill_head.new.self _ parts c.in-Some.is c.in_ok-head.ensures.gives in
    let now : HasParts held parts = parts_now c.fill_head.new.self held c.fill_to.ensures.grown.0 parts found c.fill_to.ensures.grown.1 in
    rw (p.1, p.2) (body_failed _ _ _ held parts _ (Keeps-trans _ _ _ c.fill_head.ensures.kept c.fill_to.ensures.kept) now c.in_err-fill_to.ensures.lacks)

pub returns-clause-reads : goal.returns-clause-reads
returns-clause-reads g c =
    let parts = c.in-Some.head in
    let held = c.fill_to.new.self in
    let found : HasParts c.fill_head.new.self parts = given_parts _ c.fill_head.new.self _ parts c.in-Some.is c.in_ok-head.ensures.gives in
    let now : HasParts held parts = parts_now c.fill_head.new.self held c.fill_to.ensures.grown.0 parts found c.fill_to.ensures.grown.1 in
    let same : c.self.inside.intake ≡ held = c.self.view_is in
    call_given (prepend_known c.args.self.now (g.S.Source.left c.args.source.now)) (g.S.Source.left c.fill_to.new.source) held c.give.new.self c.in_ok-body.body parts c.with_body.result (parts.len + parts.size)
    (Keeps-trans _ _ _ c.fill_head.ensures.kept c.fill_to.ensures.kept) now refl c.in_ok-fill_to.ensures.whole
    (c.in_ok-body.ensures.given ∙ ap (λ (l : List ℕ). slice_range l parts.len (parts.len + parts.size)) same)
    (c.in_ok-body.ensures.after ∙ ap (drop (parts.len + parts.size)) same) c.with_body.ensures
