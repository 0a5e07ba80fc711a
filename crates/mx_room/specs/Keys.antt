-- The transactions of a writer's events, by the rank of the id, device, id and path.
use Rattle.std.specs.Prelude.{ℕ, List, Option, Some, None, option_map, if◌then◌else◌}
use Rattle.std.specs.BTreeMap as tree
use Rattle.std.specs.Cmp.{IsTotalOrder, nat_cmp_total, on_total, then_total}
use Rattle.std.specs.Cmp.Lexicographic.{lists_total, slice_cmp}
use Rattle.std.specs.declared.cmp.Ordering.{Ordering}
use Rattle.std.specs.Ordering.{eq_by_cmp, nat_cmp, on, then_cmp}
use Rattle.mx_ids.specs.declared.event_id.EventId.{EventId}
use Rattle.mx_event.specs.declared.event.Txn.{Txn}
use Rattle.mx_room.specs.declared.txns.SentTxn.{SentTxn}
use Rattle.mx_room.specs.declared.txns.TxnIndex.{TxnIndex}
use Rattle.mx_room.specs.declared.txn_key.TxnKey.{TxnKey}

abbrev pub device_of : TxnKey → ℕ
device_of k = k.txn.device

abbrev pub id_of : TxnKey → List ℕ
id_of k = k.txn.id

abbrev pub path_of : TxnKey → List (List ℕ)
path_of k = k.txn.path

abbrev pub rank_of : TxnKey → ℕ
rank_of k = k.rank

-- by the rank, then by device, by id and by path
abbrev pub key_cmp : TxnKey → TxnKey → Ordering
key_cmp = then_cmp (on rank_of nat_cmp) (then_cmp (on device_of nat_cmp) (then_cmp (on id_of (slice_cmp nat_cmp)) (on path_of (slice_cmp (slice_cmp nat_cmp)))))

pub key_total : IsTotalOrder key_cmp
key_total = then_total (on_total rank_of nat_cmp_total) (then_total (on_total device_of nat_cmp_total) (then_total (on_total id_of (lists_total nat_cmp_total)) (on_total path_of (lists_total (lists_total nat_cmp_total)))))

-- the event of a transaction once that of another is set
abbrev pub id_after : Option TxnKey → EventId → TxnKey → Option EventId → Option EventId
id_after None id k old = old
id_after (Some key) id k old = if eq_by_cmp key_cmp key k then Some id else old

-- the event of a transaction where that of the last one, if there is one, stands beside the others
abbrev pub id_beside : Option SentTxn → TxnKey → Option EventId → Option EventId
id_beside None k old = old
id_beside (Some last) k old = id_after (Some last.key) last.id k old

-- the event of a transaction
abbrev pub id_at : TxnIndex → TxnKey → Option EventId
id_at m k = id_beside m.last k (tree.get key_cmp m.earlier k)

-- the event that was sent in a transaction, if there is one
abbrev pub sent_at : TxnIndex → Option TxnKey → Option EventId
sent_at m None = None
sent_at m (Some k) = id_at m k

-- the transaction of a key
abbrev pub txn_of : Option TxnKey → Option Txn
txn_of key = option_map (λ (k : TxnKey). k.txn) key
