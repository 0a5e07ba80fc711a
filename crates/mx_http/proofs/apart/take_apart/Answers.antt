use Rattle.std.proofs.Common.{IsUtf8, take, refl, sym, subst, ◌∙◌}
use Rattle.mx_http.proofs.Heads.{parts_are, token_is_text}
use Rattle.mx_http.proofs.apart.take_apart.Goals as goal

pub copy_text-requires : goal.copy_text-requires
copy_text-requires c =
    let head = c.requires.whole in
    subst IsUtf8 (sym (c.of.ensures ∙ head.1.method)) (token_is_text head.0.method head.1.reads.0.method)

pub returns : goal.returns
returns c =
    parts_are c.args.bytes.now c.args.fields.now (take c.args.spans.headers c.args.fields.now) c.args.spans _ c.requires.short c.requires.within c.requires.whole
    refl c.in_ok-size.ensures.value (c.in_ok-method.ensures ∙ c.of.ensures) (c.in_ok-target.ensures ∙ c.of-2.ensures)
    (c.in_ok-bearer.ensures ∙ c.bearer.ensures) c.asks_close-close.ensures refl
