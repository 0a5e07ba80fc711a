use Rattle.mx_pool.proofs.telling.tell.Goals as goal

pub returns-in-RequestStream : goal.returns-in-RequestStream
returns-in-RequestStream g c = rw c.in-RequestStream.is c.put_text.ensures

pub returns-in-Usage : goal.returns-in-Usage
returns-in-Usage g c = rw c.in-Usage.is c.put_line.ensures

pub returns-in-UsersFile : goal.returns-in-UsersFile
returns-in-UsersFile g c = rw c.in-UsersFile.is c.put_users_line.ensures

pub returns-in-Outside : goal.returns-in-Outside
returns-in-Outside g c = rw c.in-Outside.is c.put_line-in-Outside.ensures

pub returns-in-Memory : goal.returns-in-Memory
returns-in-Memory g c = rw c.in-Memory.is c.put_text-in-Memory.ensures

pub returns-in-Listener : goal.returns-in-Listener
returns-in-Listener g c = rw c.in-Listener.is c.put_line-in-Listener.ensures

pub returns-in-Journal : goal.returns-in-Journal
returns-in-Journal g c = rw c.in-Journal.is c.put_journal_line.ensures
