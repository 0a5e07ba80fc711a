use Rattle.std.proofs.Common.{◌∷◌, drop, false}
use Rattle.mx_json.specs.Texts.{list_text, object_text}
use Rattle.mx_http.specs.Stages.{state_of}
use Rattle.mx_http.proofs.Stages.{Leaves}
use Rattle.mx_http.proofs.print.+put_json.Given as goal

abbrev pub invariant-put_list-items : goal.invariant-put_list-items
invariant-put_list-items g l =
    Leaves (state_of g.K.Sink.written g.K.Sink.faults l.fn.sink l.fn.stage) (state_of g.K.Sink.written g.K.Sink.faults l.sink l.stage)
    (list_text l.later (drop l.item-index l.item-items)) (91 ∷ list_text false l.item-items)

abbrev pub invariant-put_object-members : goal.invariant-put_object-members
invariant-put_object-members g l =
    Leaves (state_of g.K.Sink.written g.K.Sink.faults l.fn.sink l.fn.stage) (state_of g.K.Sink.written g.K.Sink.faults l.sink l.stage)
    (object_text l.later (drop l.member-index l.member-items)) (123 ∷ object_text false l.member-items)
