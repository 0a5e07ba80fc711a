use Rattle.mx_snapshot.proofs.Entries.{next_data, next_filter}
use Rattle.std.proofs.lemmas.Result.{on_ok_weaker}
use Rattle.mx_snapshot.proofs.account_index.AccountIndex.take_in.Goals as goal

pub returns-in_ok-take_data-in-Data : goal.returns-in_ok-take_data-in-Data
returns-in_ok-take_data-in-Data c = λ es was.
    let given = c.in_ok-take_data-in-Data.ensures in
    next_data c.args.self.now c.take_data.new.self es c.args.entry.now c.in-Data.user c.in-Data.kind _ _ c.in-Data.room c.in-Data.content c.in-Data.at c.in-Data.is c.as_str.ensures.text c.as_str-in-Data.ensures
    given.users given.global given.rooms given.filters was

pub returns-in-Filter : goal.returns-in-Filter
returns-in-Filter c = λ es was.
    on_ok_weaker c.add_to_key.result (λ put. next_filter c.args.self.now c.add_to_key.new.keys es c.args.entry.now c.in-Filter.user _ c.in-Filter.id c.in-Filter.filter c.in-Filter.at c.in-Filter.is c.as_str-in-Filter.ensures.text put was) c.add_to_key.ensures
