use Rattle.std.proofs.Common.{◌-◌, length, rules, arith}
use Rattle.mx_http.proofs.Words.{number_fits, number_more, number_step}
use Rattle.mx_http.proofs.fields.read_number.Goals as goal

pub overflow_mul-number : goal.overflow_mul-number
overflow_mul-number c =
    omega (arith, number_fits c.loop-rest.number (length c.args.digits.now - length c.loop-rest.rest.now) c.loop-rest.invariant.small (omega (arith, c.requires, c.in-48-to-57.len_at_least)))

pub overflow_add-number : goal.overflow_add-number
overflow_add-number c =
    omega (arith, number_fits c.loop-rest.number (length c.args.digits.now - length c.loop-rest.rest.now) c.loop-rest.invariant.small (omega (arith, c.requires, c.in-48-to-57.len_at_least)), c.from.ensures)

pub loop-rest-preserved : goal.loop-rest-preserved
loop-rest-preserved c = record {
  few = search rules;
  small = number_more c.loop-rest.number c.from.result (length c.args.digits.now) (length c.loop-rest.rest.now) _ (omega arith) c.loop-rest.invariant.few c.loop-rest.invariant.small (omega (arith, c.from.ensures));
  same = number_step c.loop-rest.number _ _ c.loop-rest.rest.now c.args.digits.now (omega arith) (omega arith) (omega arith) (omega (arith, c.from.ensures)) (omega arith) c.loop-rest.invariant.same;
}
