use Rattle.std.proofs.Common.{inl, inr, refl}
use Rattle.mx_pool.proofs.session.print_text.Goals as goal

pub returns-in-Done-clause-prints : goal.returns-in-Done-clause-prints
returns-in-Done-clause-prints g c = (c.as_bytes.result.now, inl (c.unserved_for.ensures.status, c.in-Done.ensures.bytes))

pub returns-in-Failed-clause-prints : goal.returns-in-Failed-clause-prints
returns-in-Failed-clause-prints g c = (c.as_bytes.result.now, inr (c.unserved_for-in-Failed.ensures.status, c.in-Failed.ensures.cause refl, c.in-Failed.ensures.bytes))
