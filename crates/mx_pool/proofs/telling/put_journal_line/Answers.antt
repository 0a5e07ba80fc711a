use Rattle.mx_pool.proofs.telling.put_journal_line.Goals as goal

pub returns-in-Busy : goal.returns-in-Busy
returns-in-Busy g c = rw c.in-Busy.is c.put_line.ensures

pub returns-in-Failed : goal.returns-in-Failed
returns-in-Failed g c = rw c.in-Failed.is c.put_line-in-Failed.ensures

pub returns-in-Line : goal.returns-in-Line
returns-in-Line g c = rw c.in-Line.is c.put_refused_line.ensures
