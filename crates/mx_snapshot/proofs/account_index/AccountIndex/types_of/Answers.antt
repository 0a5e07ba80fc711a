use Rattle.std.proofs.Common.{◌∙◌, ap, filter, map, sym}
use Rattle.std.specs.BTreeMap as tree
use Rattle.std.specs.Option.{option_copied}
use Rattle.mx_account.specs.Entries.{is_data_of, position_of}
use Rattle.mx_snapshot.specs.Lists.{key_in, room_cmp}
use Rattle.mx_snapshot.proofs.RoomKeys.{typed_keys}
use Rattle.mx_snapshot.proofs.account_index.AccountIndex.types_of.Goals as goal

pub returns-in-Some : goal.returns-in-Some
returns-in-Some c = λ es indexed kind.
    ap (λ o. key_in o kind) c.type_keys.ensures ∙ typed_keys (tree.get room_cmp c.args.self.now.rooms c.in-Some.room.now) c.args.user.now kind ∙ indexed.rooms c.in-Some.room.now c.args.user.now kind
    ∙ ap (λ o. map position_of (filter (is_data_of c.args.user.now (option_copied o) kind) es)) (sym c.in-Some.is)

pub returns-in-None : goal.returns-in-None
returns-in-None c = λ es indexed kind.
    ap (λ o. key_in o kind) c.get.ensures.value ∙ indexed.global c.args.user.now kind
    ∙ ap (λ o. map position_of (filter (is_data_of c.args.user.now (option_copied o) kind) es)) (sym c.in-None.is)
