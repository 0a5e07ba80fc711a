use Rattle.std.proofs.Common.{◌≡◌, length, take, drop, slice_range, ap, ◌∙◌, arith}
use Rattle.mx_http.specs.Window.{Window}
use Rattle.mx_http.proofs.Windows.{fill_got, fill_none}
use Rattle.mx_http.proofs.held.Held.take_now.Goals as goal

pub returns-in-Got-clause-fills : goal.returns-in-Got-clause-fills
returns-in-Got-clause-fills g c =
    let i = c.self.inside in
    let ys = c.take_behind_now.new.bytes in
    let value : c.as_mut_slice.result.now ≡ i.bytes.items = c.as_mut_slice.ensures.value in
    let all : i.bytes.len ≡ length ys = omega (arith, c.take_behind_now.auto.bytes, ap length value, i.bytes.ok.0) in
    let front : take i.end ys ≡ take i.end i.bytes.items = c.take_behind_now.ensures.front ∙ ap (take i.end) value in
    let is : slice_range i.bytes.items i.start i.end ≡ c.args.self.now.held = ap (λ (w : Window). w.held) c.self.view_is ∙ c.make_room.ensures.same in
    let got = fill_got i.bytes.items ys _ c.args.self.now.held i.bytes.len i.start i.end c.in-Got.count all c.self.invariant.0 (omega (arith, c.self.invariant.1, all)) front is c.in-Got.ensures.room.0 (omega (arith, c.in-Got.ensures.room.1, c.take_behind_now.auto.bytes)) in
    (take c.in-Got.count (drop i.end ys), got.0, got.1, c.in-Got.ensures.moves)

pub returns-in-NotYet-clause-fills : goal.returns-in-NotYet-clause-fills
returns-in-NotYet-clause-fills g c =
    let i = c.self.inside in
    let ys = c.take_behind_now.new.bytes in
    let value : c.as_mut_slice.result.now ≡ i.bytes.items = c.as_mut_slice.ensures.value in
    let all : i.bytes.len ≡ length ys = omega (arith, c.take_behind_now.auto.bytes, ap length value, i.bytes.ok.0) in
    let front : take i.end ys ≡ take i.end i.bytes.items = c.take_behind_now.ensures.front ∙ ap (take i.end) value in
    let is : slice_range i.bytes.items i.start i.end ≡ c.args.self.now.held = ap (λ (w : Window). w.held) c.self.view_is ∙ c.make_room.ensures.same in
    (fill_none i.bytes.items ys _ c.args.self.now.held i.bytes.len i.start i.end all c.self.invariant.0 front is, c.in-NotYet.ensures.moves)

pub returns-in-End-clause-fills : goal.returns-in-End-clause-fills
returns-in-End-clause-fills g c =
    let i = c.self.inside in
    let ys = c.take_behind_now.new.bytes in
    let value : c.as_mut_slice.result.now ≡ i.bytes.items = c.as_mut_slice.ensures.value in
    let all : i.bytes.len ≡ length ys = omega (arith, c.take_behind_now.auto.bytes, ap length value, i.bytes.ok.0) in
    let front : take i.end ys ≡ take i.end i.bytes.items = c.take_behind_now.ensures.front ∙ ap (take i.end) value in
    let is : slice_range i.bytes.items i.start i.end ≡ c.args.self.now.held = ap (λ (w : Window). w.held) c.self.view_is ∙ c.make_room.ensures.same in
    (fill_none i.bytes.items ys _ c.args.self.now.held i.bytes.len i.start i.end all c.self.invariant.0 front is, c.in-End.ensures.moves.1, c.in-End.ensures.moves.0)

pub returns-in-Failed-clause-fills : goal.returns-in-Failed-clause-fills
returns-in-Failed-clause-fills g c =
    let i = c.self.inside in
    let ys = c.take_behind_now.new.bytes in
    let value : c.as_mut_slice.result.now ≡ i.bytes.items = c.as_mut_slice.ensures.value in
    let all : i.bytes.len ≡ length ys = omega (arith, c.take_behind_now.auto.bytes, ap length value, i.bytes.ok.0) in
    let front : take i.end ys ≡ take i.end i.bytes.items = c.take_behind_now.ensures.front ∙ ap (take i.end) value in
    let is : slice_range i.bytes.items i.start i.end ≡ c.args.self.now.held = ap (λ (w : Window). w.held) c.self.view_is ∙ c.make_room.ensures.same in
    (fill_none i.bytes.items ys _ c.args.self.now.held i.bytes.len i.start i.end all c.self.invariant.0 front is, c.in-Failed.ensures.moves)
