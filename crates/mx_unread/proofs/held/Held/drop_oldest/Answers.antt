use Rattle.mx_unread.proofs.held.Held.drop_oldest.Goals as goal

pub tallies-preserved : goal.tallies-preserved
tallies-preserved c = λ s all. c.drop_one.ensures s (c.tallies.invariant s all)
