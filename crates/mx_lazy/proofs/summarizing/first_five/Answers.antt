use Rattle.std.proofs.Common.{◌≡◌, ◌<◌, length, map, filter, drop, sym, ◌∙◌, arith}
use Rattle.mx_snapshot.specs.Looks.{all_now}
use Rattle.mx_lazy.specs.Summaries.{user_of, is_hero, first_five}
use Rattle.mx_lazy.proofs.Heroes.{take_front, five_more}
use Rattle.mx_lazy.proofs.summarizing.first_five.Goals as goal

pub returns-then-len-eq5 : goal.returns-then-len-eq5
returns-then-len-eq5 c =
    let made = c.members.made.items in
    let full : length made ≡ 5 = omega (arith, c.len.ensures, c.if-len-eq5.true, c.members.made.ok.0) in
    c.from_vec.ensures
    ∙ sym (take_front 5 made (map user_of (filter (is_hero c.args.gone c.args.user.now) (all_now (drop c.members.member-index c.args.members.now)))) full)
    ∙ c.members.invariant.1

pub members-preserved : goal.members-preserved
members-preserved c =
    let made = c.members.made.items in
    let few : length made < 5 = omega (arith, c.len.ensures, c.if-len-eq5.false, c.members.made.ok.0, c.members.invariant.0) in
    five_more c.args.gone c.args.user.now made c.add_hero.new.made.items c.args.members.now c.members.member-index c.member-item.result
    (first_five (filter (is_hero c.args.gone c.args.user.now) (all_now c.args.members.now))) few c.members-test.true c.member-item.is c.in_ok-add_hero.ensures c.members.invariant.1
