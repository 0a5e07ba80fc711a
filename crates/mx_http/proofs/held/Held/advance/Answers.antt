use Rattle.std.proofs.Common.{◌-◌, ◌≡◌, length, drop, sym, ap, ◌∙◌, arith}
use Rattle.mx_http.specs.Window.{Window}
use Rattle.mx_http.proofs.Windows.{advanced, length_part}
use Rattle.mx_http.proofs.held.Held.advance.Goals as goal

pub returns : goal.returns
returns c =
    let i = c.self.inside in
    let len : length c.args.self.now.held ≡ i.end - i.start = sym (ap (λ (w : Window). length w.held) c.self.view_is) ∙ length_part i.bytes.items i.start i.end c.self.invariant.0 (omega (arith, c.self.invariant.1, i.bytes.ok.0)) in
    advanced i.bytes.items i.start i.end c.args.count (omega (arith, c.requires, len, c.self.invariant.0)) ∙ ap (λ (w : Window). drop c.args.count w.held) c.self.view_is
