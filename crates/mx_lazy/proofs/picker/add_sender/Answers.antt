use Rattle.std.proofs.Common.{true, cond, is_eq, nat_cmp, ap, ◌∙◌}
use Rattle.std.specs.Cmp.Lexicographic.{slice_cmp}
use Rattle.mx_lazy.specs.Picks.{has_sender}
use Rattle.mx_lazy.proofs.SentBy.{sender_more}
use Rattle.mx_lazy.proofs.picker.add_sender.Goals as goal

pub returns : goal.returns
returns c = λ t. sender_more c.args.event.now.sender t (has_sender c.insert.new.self t) (has_sender c.args.senders.now t)
    (c.in_ok-insert.ensures.updates.0 t ∙ ap (λ s. cond (is_eq (slice_cmp nat_cmp s t)) true (has_sender c.args.senders.now t)) (c.in_ok-copy.ensures ∙ c.as_text.ensures.text))
