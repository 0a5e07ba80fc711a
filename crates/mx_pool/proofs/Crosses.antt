-- A pool is shared by threads, and a connection goes to one.
use denote.RattleType.{RattleType}
use denote.Param.Send.{IsSend, IsSync, sendable}
use denote.Param.SendFields.{declared_send, declared_sync, as_row_send}
use denote.Struct.Field.{row_field}
use Rattle.std.proofs.Crossing.{Arc-send, Vec-send, send as heap}
use Rattle.std.proofs.sync.Mutex.TheSendSync as mutex
use Rattle.std.proofs.sync.Condvar.TheSendSync as condvar
use Rattle.std.proofs.sync.ledger.Share.TheSendSync as share
use Rattle.std.specs.declared.sync.ledger.Ledger.{Ghosts as LedgerGhosts}
use Rattle.mx_outside.specs.declared.sink.Sink.{Ghosts as SinkGhosts}
use Rattle.mx_outside.specs.declared.source.Source.{Ghosts as SourceGhosts}
use Rattle.mx_outside.specs.declared.port.Port.{Ghosts as PortGhosts}
use Rattle.mx_outside.specs.declared.ports.Ports.{Ghosts as PortsGhosts}
use Rattle.mx_writers.specs.declared.gate.Gate.{Ghosts as GateGhosts}
use Rattle.mx_event.specs.contracts.placed.EventPlaced.TheImpl as event_placed
use Rattle.mx_receipt.specs.contracts.receipt.ReceiptPlaced.TheImpl as receipt_placed
use Rattle.mx_account.specs.contracts.entry.EntryPlaced.TheImpl as entry_placed
use Rattle.mx_serve.specs.OfEngine.Outer.{EntryFolds, EventFolds, ReceiptFolds}
use Rattle.mx_serve.proofs.OfEngine.Crosses.{pass_send}
use Rattle.mx_serve.proofs.Crosses.{server_send, server_sync}
use Rattle.mx_serve.specs.contracts.server.Server as Server
use Rattle.mx_pool.specs.contracts.connection.Connection as Connection
use Rattle.mx_pool.specs.contracts.looping.Looping as Looping
use Rattle.mx_pool.specs.contracts.pool.Free as Free
use Rattle.mx_pool.specs.contracts.pool.Pool as Pool
use Rattle.mx_pool.specs.contracts.seated.Seated as Seated
use Rattle.mx_pool.specs.contracts.seated.Taken as Taken
use Rattle.mx_pool.specs.declared.seated.Seating.{Ghosts as SeatingGhosts}

module _ (N : RattleType) (seating : SeatingGhosts N.Denot) (ledger : LedgerGhosts N.Denot) where
  seated_send : IsSend (Seated.the_row N seating ledger)
  seated_send = declared_send (Seated.the_type N seating ledger) (pass_send, (share.the_send N ledger, tt))

  taken_send : IsSend (Taken.the_row N seating ledger)
  taken_send = declared_send (Taken.the_type N seating ledger) (pass_send, (share.the_send N ledger, tt))

  free_send : IsSend (Free.the_row N seating ledger)
  free_send = declared_send (Free.the_type N seating ledger) (Vec-send (Seated.the_row N seating ledger) seated_send, (search (taken_send, sendable) depth 9, tt))

  module _ (G Ev Re Ac : RattleType) (gate : GateGhosts G.Denot) (fe : EventFolds Ev.Denot) (fr : ReceiptFolds Re.Denot) (fa : EntryFolds Ac.Denot) where
    abbrev pool_row : RattleType
    pool_row = Pool.the_row N G Ev Re Ac seating gate fe event_placed.ghosts fr receipt_placed.ghosts fa entry_placed.ghosts ledger

    pool_send : IsSend G → IsSend Ev → IsSend Re → IsSend Ac → IsSend pool_row
    pool_send g events receipts accounts = declared_send (Pool.the_type N G Ev Re Ac seating gate fe event_placed.ghosts fr receipt_placed.ghosts fa entry_placed.ghosts ledger)
        (server_send G Ev Re Ac gate fe fr fa g events receipts accounts, (mutex.the_send (Free.the_row N seating ledger) free_send, (condvar.the_send, tt)))

    pool_sync : IsSync G → IsSend Ev → IsSend Re → IsSend Ac → IsSync pool_row
    pool_sync y events receipts accounts = declared_sync (Pool.the_type N G Ev Re Ac seating gate fe event_placed.ghosts fr receipt_placed.ghosts fa entry_placed.ghosts ledger)
        (server_sync G Ev Re Ac gate fe fr fa y events receipts accounts, (mutex.the_sync (Free.the_row N seating ledger) free_send, (condvar.the_sync, tt)))

    module _ (S K C R : RattleType) (source : SourceGhosts S.Denot) (sink : SinkGhosts K.Denot) where
      pub connection_send : IsSend G → IsSync G → IsSend Ev → IsSend Re → IsSend Ac → IsSend S → IsSend K → IsSend C → IsSend R
          → IsSend (Connection.the_row N G S K C R Ev Re Ac seating gate fe event_placed.ghosts fr receipt_placed.ghosts fa entry_placed.ghosts source sink ledger)
      connection_send g y events receipts accounts s k c r =
          declared_send (Connection.the_type N G S K C R Ev Re Ac seating gate fe event_placed.ghosts fr receipt_placed.ghosts fa entry_placed.ghosts source sink ledger) (
            Arc-send pool_row (pool_send g events receipts accounts) (pool_sync y events receipts accounts),
            (taken_send, (as_row_send (row_field S) s, (as_row_send (row_field K) k, (as_row_send (row_field C) c, (heap, (as_row_send (row_field R) r, tt)))))),
          )

-- a loop goes to a thread of its own
module _ (G Ev Re Ac : RattleType) (gate : GateGhosts G.Denot) (fe : EventFolds Ev.Denot) (fr : ReceiptFolds Re.Denot) (fa : EntryFolds Ac.Denot) (Q Port C R : RattleType) (ports : PortsGhosts Q.Denot Port.Denot) (port : PortGhosts Port.Denot) where
  pub looping_send : IsSend G → IsSync G → IsSend Ev → IsSend Re → IsSend Ac → IsSend Q → IsSend C → IsSend R
      → IsSend (Looping.the_row G Q C R Ev Re Ac Port gate fe event_placed.ghosts fr receipt_placed.ghosts fa entry_placed.ghosts ports port)
  looping_send g y events receipts accounts q c r =
      declared_send (Looping.the_type G Q C R Ev Re Ac Port gate fe event_placed.ghosts fr receipt_placed.ghosts fa entry_placed.ghosts ports port) (
        Arc-send (Server.the_row G Ev Re Ac gate fe fr fa) (server_send G Ev Re Ac gate fe fr fa g events receipts accounts) (server_sync G Ev Re Ac gate fe fr fa y events receipts accounts),
        (pass_send, (search sendable depth 9, (as_row_send (row_field Q) q, (as_row_send (row_field C) c, (heap, (as_row_send (row_field R) r, tt)))))),
      )
