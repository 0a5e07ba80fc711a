-- What is sent in each transaction once the last one is put among the others.
use Rattle.std.proofs.Common.{◌≡◌, Some, None, sym, ap, ◌∙◌}
use Rattle.std.specs.BTreeMap as tree
use Rattle.mx_room.specs.declared.txns.SentTxn.{SentTxn}
use Rattle.mx_room.specs.declared.txns.TxnIndex.{TxnIndex}
use Rattle.mx_room.specs.declared.txn_key.TxnKey.{TxnKey}
use Rattle.mx_room.specs.Keys.{id_at, id_beside, key_cmp}

-- the last one was put among the others
pub put_among : (m n : TxnIndex) (last : SentTxn) → m.last ≡ Some last → n.last ≡ None → tree.Updates key_cmp m.earlier n.earlier last.key (Some last.id)
    → (k : TxnKey) → id_at n k ≡ id_at m k
put_among m n last was now h k =
    ap (λ o. id_beside o k (tree.get key_cmp n.earlier k)) now ∙ h.0 k ∙ ap (λ o. id_beside o k (tree.get key_cmp m.earlier k)) (sym was)
