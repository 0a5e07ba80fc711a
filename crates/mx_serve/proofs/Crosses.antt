-- Threads may share a server.
use denote.RattleType.{RattleType}
use denote.Param.Send.{IsSend, IsSync, view_send, view_sync, sendable}
use denote.Param.SendFields.{declared_send, declared_sync}
use Rattle.std.proofs.Crossing.{crosses, frees}
use Rattle.std.specs.contracts.alloc.Global as Heap
use Rattle.std.specs.contracts.impls.GlobalAllocator.TheImpl.{ghosts}
use Rattle.matchit.proofs.route.Route.TheSendSync as parts
use Rattle.matchit.proofs.tree.Node.TheLaws.TheKnot.{crosses as knot}
use Rattle.matchit.specs.contracts.tree.Node as Node
use Rattle.matchit.specs.contracts.router.Router as Router
use Rattle.matchit.specs.contracts.router.Router.TheInside as inside
use Rattle.slab.proofs.Slab.TheSendSync as slab
use Rattle.mx_api_reads.specs.contracts.ask.ReadRoutes as ReadRoutes
use Rattle.mx_api_reads.specs.contracts.route.Route as ReadRoute
use Rattle.mx_api_reads.proofs.route.Route.TheSendSync as read_route
use Rattle.mx_api_room.specs.contracts.ask.RoomRoutes as RoomRoutes
use Rattle.mx_api_room.specs.contracts.route.Route as RoomRoute
use Rattle.mx_api_room.proofs.route.Route.TheSendSync as room_route
use Rattle.mx_api_user.specs.contracts.ask.UserRoutes as UserRoutes
use Rattle.mx_api_user.specs.contracts.route.Route as UserRoute
use Rattle.mx_api_user.proofs.route.Route.TheSendSync as user_route
use Rattle.mx_writers.specs.declared.gate.Gate.{Ghosts}
use Rattle.mx_poll.specs.OfEngine.Outer.{EntryFolds, EventFolds, ReceiptFolds}
use Rattle.mx_poll.proofs.OfEngine.Crosses.{engine_send, engine_sync}
use Rattle.mx_serve.specs.contracts.call_asked.Routes as Routes
use Rattle.mx_serve.specs.contracts.server.Server as Server

-- a node of a router's tree holds nodes
node_send : IsSend Node.the_row
node_send = search (sendable, crosses, knot) depth 30

node_sync : IsSync Node.the_row
node_sync = search (sendable, crosses, knot) depth 30

heap_send : IsSend Heap.the_row
heap_send = search sendable depth 9

heap_sync : IsSync Heap.the_row
heap_sync = search sendable depth 9

module _ (T : RattleType) where
  router_send : IsSend T → IsSend (Router.the_row T)
  router_send t = view_send (inside.the_row T) _ _ _ _ (declared_send (inside.the_type T) (heap_send, (node_send, (search (parts.the_send, crosses, sendable) depth 9, (slab.the_send T Heap.the_row ghosts t heap_send frees, (search (crosses, sendable) depth 9, tt))))))

  router_sync : IsSync T → IsSync (Router.the_row T)
  router_sync t = view_sync (inside.the_row T) _ _ _ _ (declared_sync (inside.the_type T) (heap_sync, (node_sync, (search (parts.the_sync, crosses, sendable) depth 9, (slab.the_sync T Heap.the_row ghosts t heap_sync, (search (crosses, sendable) depth 9, tt))))))

routes_send : IsSend Routes.the_row
routes_send = declared_send Routes.the_type (
  declared_send UserRoutes.the_type (router_send UserRoute.the_row user_route.the_send, tt),
  (
    declared_send RoomRoutes.the_type (router_send RoomRoute.the_row room_route.the_send, tt),
    (declared_send ReadRoutes.the_type (router_send ReadRoute.the_row read_route.the_send, tt), tt),
  ),
)

routes_sync : IsSync Routes.the_row
routes_sync = declared_sync Routes.the_type (
  declared_sync UserRoutes.the_type (router_sync UserRoute.the_row user_route.the_sync, tt),
  (
    declared_sync RoomRoutes.the_type (router_sync RoomRoute.the_row room_route.the_sync, tt),
    (declared_sync ReadRoutes.the_type (router_sync ReadRoute.the_row read_route.the_sync, tt), tt),
  ),
)

module _ (G Ev Re Ac : RattleType) (gate : Ghosts G.Denot) (fe : EventFolds Ev.Denot) (fr : ReceiptFolds Re.Denot) (fa : EntryFolds Ac.Denot) where
  pub server_send : IsSend G → IsSend Ev → IsSend Re → IsSend Ac → IsSend (Server.the_row G Ev Re Ac gate fe fr fa)
  server_send g events receipts accounts = declared_send (Server.the_type G Ev Re Ac gate fe fr fa) (engine_send G Ev Re Ac gate fe fr fa g events receipts accounts, (routes_send, (search sendable depth 9, tt)))

  pub server_sync : IsSync G → IsSend Ev → IsSend Re → IsSend Ac → IsSync (Server.the_row G Ev Re Ac gate fe fr fa)
  server_sync g events receipts accounts = declared_sync (Server.the_type G Ev Re Ac gate fe fr fa) (engine_sync G Ev Re Ac gate fe fr fa g events receipts accounts, (routes_sync, (search sendable depth 9, tt)))
