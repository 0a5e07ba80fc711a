-- The arms of a match on what is asked are all that its kind has.
use Rattle.std.proofs.Common.{◌≡◌, ◌∙◌, ℕ, List, Bool, Option, Some, None, ap, refl, subst}
use Rattle.mx_aims.specs.Asked.{Site}
use Rattle.mx_ask.specs.declared.ask.Ask.{Ask}
use Rattle.mx_ask.specs.declared.ask.Ask.TheVariants as ask
use Rattle.mx_ask.specs.declared.ask.FilterAsk.{FilterAsk}
use Rattle.mx_ask.specs.declared.ask.Who.{Who}
use Rattle.mx_event.specs.declared.event.Txn.{Txn}
use Rattle.mx_filter.specs.declared.parts.Filter.{Filter}
use Rattle.mx_ids.specs.declared.sync_token.SyncToken.{SyncToken}
use Rattle.mx_json.specs.declared.value.Json.{Json}
use Rattle.mx_pager.specs.declared.asked.Bound.{Bound}
use Rattle.mx_receipt.specs.declared.receipt.ReceiptKind.{ReceiptKind}
use Rattle.mx_acts.specs.Acts.{asked, kind_in}
use Rattle.mx_acts.specs.declared.kind.ActKind.TheVariants as kinds

module _ (site : Site) (now : ℕ) (who : Who) where
  -- of what reads
  pub reads_are : (a : Ask) → kind_in (asked site now who a) ≡ kinds.Reads
      → (a ≡ ask.WhoAmI → ⊥)
      → (a ≡ ask.JoinedRooms → ⊥)
      → ((room kind key : List ℕ) → a ≡ ask.GetState room kind key → ⊥)
      → ((room : List ℕ) → a ≡ ask.AllState room → ⊥)
      → ((room : List ℕ) (membership not_membership : Option (List ℕ)) → a ≡ ask.Members room membership not_membership → ⊥)
      → ((room event : List ℕ) → a ≡ ask.OneEvent room event → ⊥)
      → ((room : List ℕ) (backward : Bool) (from to : Option Bound) (limit : ℕ) (filter : Filter) → a ≡ ask.Messages room backward from to limit filter → ⊥)
      → ((since : Option SyncToken) (filter : FilterAsk) (full after : Bool) (timeout : ℕ) → a ≡ ask.Sync since filter full after timeout → ⊥)
      → ((id : List ℕ) → a ≡ ask.GetFilter id → ⊥)
      → ((room : Option (List ℕ)) (kind : List ℕ) → a ≡ ask.GetAccount room kind → ⊥)
      → ((room : List ℕ) → a ≡ ask.Tags room → ⊥)
      → ((inner : Bool) → a ≡ ask.PushRules inner → ⊥)
      → ((kind : _) (id : List ℕ) → a ≡ ask.GetRule kind id → ⊥)
      → ((kind : _) (id : List ℕ) → a ≡ ask.GetEnabled kind id → ⊥)
      → ((kind : _) (id : List ℕ) → a ≡ ask.GetActions kind id → ⊥) → ⊥
  reads_are ask.WhoAmI is h0 h1 h2 h3 h4 h5 h6 h7 h8 h9 h10 h11 h12 h13 h14 = absurd (h0 refl)
  reads_are (ask.CreateRoom body) is h0 h1 h2 h3 h4 h5 h6 h7 h8 h9 h10 h11 h12 h13 h14 = absurd cc
  reads_are ask.JoinedRooms is h0 h1 h2 h3 h4 h5 h6 h7 h8 h9 h10 h11 h12 h13 h14 = absurd (h1 refl)
  reads_are (ask.Send room kind txn content) is h0 h1 h2 h3 h4 h5 h6 h7 h8 h9 h10 h11 h12 h13 h14 = absurd cc
  reads_are (ask.PutState room kind key content) is h0 h1 h2 h3 h4 h5 h6 h7 h8 h9 h10 h11 h12 h13 h14 = absurd cc
  reads_are (ask.GetState room kind key) is h0 h1 h2 h3 h4 h5 h6 h7 h8 h9 h10 h11 h12 h13 h14 = absurd (h2 room kind key refl)
  reads_are (ask.AllState room) is h0 h1 h2 h3 h4 h5 h6 h7 h8 h9 h10 h11 h12 h13 h14 = absurd (h3 room refl)
  reads_are (ask.Members room membership not_membership) is h0 h1 h2 h3 h4 h5 h6 h7 h8 h9 h10 h11 h12 h13 h14 = absurd (h4 room membership not_membership refl)
  reads_are (ask.OneEvent room event) is h0 h1 h2 h3 h4 h5 h6 h7 h8 h9 h10 h11 h12 h13 h14 = absurd (h5 room event refl)
  reads_are (ask.Redact room event txn reason) is h0 h1 h2 h3 h4 h5 h6 h7 h8 h9 h10 h11 h12 h13 h14 = absurd cc
  reads_are (ask.Join room reason) is h0 h1 h2 h3 h4 h5 h6 h7 h8 h9 h10 h11 h12 h13 h14 = absurd cc
  reads_are (ask.Leave room reason) is h0 h1 h2 h3 h4 h5 h6 h7 h8 h9 h10 h11 h12 h13 h14 = absurd cc
  reads_are (ask.Invite room user reason) is h0 h1 h2 h3 h4 h5 h6 h7 h8 h9 h10 h11 h12 h13 h14 = absurd cc
  reads_are (ask.Kick room user reason) is h0 h1 h2 h3 h4 h5 h6 h7 h8 h9 h10 h11 h12 h13 h14 = absurd cc
  reads_are (ask.Ban room user reason) is h0 h1 h2 h3 h4 h5 h6 h7 h8 h9 h10 h11 h12 h13 h14 = absurd cc
  reads_are (ask.Unban room user reason) is h0 h1 h2 h3 h4 h5 h6 h7 h8 h9 h10 h11 h12 h13 h14 = absurd cc
  reads_are (ask.Messages room backward from to limit filter) is h0 h1 h2 h3 h4 h5 h6 h7 h8 h9 h10 h11 h12 h13 h14 = absurd (h6 room backward from to limit filter refl)
  reads_are (ask.Sync since filter full after timeout) is h0 h1 h2 h3 h4 h5 h6 h7 h8 h9 h10 h11 h12 h13 h14 = absurd (h7 since filter full after timeout refl)
  reads_are (ask.PutFilter filter) is h0 h1 h2 h3 h4 h5 h6 h7 h8 h9 h10 h11 h12 h13 h14 = absurd cc
  reads_are (ask.GetFilter id) is h0 h1 h2 h3 h4 h5 h6 h7 h8 h9 h10 h11 h12 h13 h14 = absurd (h8 id refl)
  reads_are (ask.PutAccount room kind content) is h0 h1 h2 h3 h4 h5 h6 h7 h8 h9 h10 h11 h12 h13 h14 = absurd cc
  reads_are (ask.GetAccount room kind) is h0 h1 h2 h3 h4 h5 h6 h7 h8 h9 h10 h11 h12 h13 h14 = absurd (h9 room kind refl)
  reads_are (ask.Tags room) is h0 h1 h2 h3 h4 h5 h6 h7 h8 h9 h10 h11 h12 h13 h14 = absurd (h10 room refl)
  reads_are (ask.PutTag room tag body) is h0 h1 h2 h3 h4 h5 h6 h7 h8 h9 h10 h11 h12 h13 h14 = absurd cc
  reads_are (ask.DeleteTag room tag) is h0 h1 h2 h3 h4 h5 h6 h7 h8 h9 h10 h11 h12 h13 h14 = absurd cc
  reads_are (ask.Receipt room None event) is h0 h1 h2 h3 h4 h5 h6 h7 h8 h9 h10 h11 h12 h13 h14 = absurd cc
  reads_are (ask.Receipt room (Some kind) event) is h0 h1 h2 h3 h4 h5 h6 h7 h8 h9 h10 h11 h12 h13 h14 = absurd cc
  reads_are (ask.ReadMarkers room None read private) is h0 h1 h2 h3 h4 h5 h6 h7 h8 h9 h10 h11 h12 h13 h14 = absurd cc
  reads_are (ask.ReadMarkers room (Some event) read private) is h0 h1 h2 h3 h4 h5 h6 h7 h8 h9 h10 h11 h12 h13 h14 = absurd cc
  reads_are (ask.PushRules inner) is h0 h1 h2 h3 h4 h5 h6 h7 h8 h9 h10 h11 h12 h13 h14 = absurd (h11 inner refl)
  reads_are (ask.GetRule kind id) is h0 h1 h2 h3 h4 h5 h6 h7 h8 h9 h10 h11 h12 h13 h14 = absurd (h12 kind id refl)
  reads_are (ask.PutRule kind id body before after) is h0 h1 h2 h3 h4 h5 h6 h7 h8 h9 h10 h11 h12 h13 h14 = absurd cc
  reads_are (ask.DeleteRule kind id) is h0 h1 h2 h3 h4 h5 h6 h7 h8 h9 h10 h11 h12 h13 h14 = absurd cc
  reads_are (ask.GetEnabled kind id) is h0 h1 h2 h3 h4 h5 h6 h7 h8 h9 h10 h11 h12 h13 h14 = absurd (h13 kind id refl)
  reads_are (ask.PutEnabled kind id on) is h0 h1 h2 h3 h4 h5 h6 h7 h8 h9 h10 h11 h12 h13 h14 = absurd cc
  reads_are (ask.GetActions kind id) is h0 h1 h2 h3 h4 h5 h6 h7 h8 h9 h10 h11 h12 h13 h14 = absurd (h14 kind id refl)
  reads_are (ask.PutActions kind id body) is h0 h1 h2 h3 h4 h5 h6 h7 h8 h9 h10 h11 h12 h13 h14 = absurd cc

  -- of writes of events
  pub sends_are : (a : Ask) → kind_in (asked site now who a) ≡ kinds.Sends
      → ((body : Json) → a ≡ ask.CreateRoom body → ⊥)
      → ((room kind : List ℕ) (txn : Txn) (content : Json) → a ≡ ask.Send room kind txn content → ⊥)
      → ((room kind key : List ℕ) (content : Json) → a ≡ ask.PutState room kind key content → ⊥)
      → ((room event : List ℕ) (txn : Txn) (reason : Option (List ℕ)) → a ≡ ask.Redact room event txn reason → ⊥)
      → ((room : List ℕ) (reason : Option (List ℕ)) → a ≡ ask.Join room reason → ⊥)
      → ((room : List ℕ) (reason : Option (List ℕ)) → a ≡ ask.Leave room reason → ⊥)
      → ((room user : List ℕ) (reason : Option (List ℕ)) → a ≡ ask.Invite room user reason → ⊥)
      → ((room user : List ℕ) (reason : Option (List ℕ)) → a ≡ ask.Kick room user reason → ⊥)
      → ((room user : List ℕ) (reason : Option (List ℕ)) → a ≡ ask.Ban room user reason → ⊥)
      → ((room user : List ℕ) (reason : Option (List ℕ)) → a ≡ ask.Unban room user reason → ⊥) → ⊥
  sends_are ask.WhoAmI is h0 h1 h2 h3 h4 h5 h6 h7 h8 h9 = absurd cc
  sends_are (ask.CreateRoom body) is h0 h1 h2 h3 h4 h5 h6 h7 h8 h9 = absurd (h0 body refl)
  sends_are ask.JoinedRooms is h0 h1 h2 h3 h4 h5 h6 h7 h8 h9 = absurd cc
  sends_are (ask.Send room kind txn content) is h0 h1 h2 h3 h4 h5 h6 h7 h8 h9 = absurd (h1 room kind txn content refl)
  sends_are (ask.PutState room kind key content) is h0 h1 h2 h3 h4 h5 h6 h7 h8 h9 = absurd (h2 room kind key content refl)
  sends_are (ask.GetState room kind key) is h0 h1 h2 h3 h4 h5 h6 h7 h8 h9 = absurd cc
  sends_are (ask.AllState room) is h0 h1 h2 h3 h4 h5 h6 h7 h8 h9 = absurd cc
  sends_are (ask.Members room membership not_membership) is h0 h1 h2 h3 h4 h5 h6 h7 h8 h9 = absurd cc
  sends_are (ask.OneEvent room event) is h0 h1 h2 h3 h4 h5 h6 h7 h8 h9 = absurd cc
  sends_are (ask.Redact room event txn reason) is h0 h1 h2 h3 h4 h5 h6 h7 h8 h9 = absurd (h3 room event txn reason refl)
  sends_are (ask.Join room reason) is h0 h1 h2 h3 h4 h5 h6 h7 h8 h9 = absurd (h4 room reason refl)
  sends_are (ask.Leave room reason) is h0 h1 h2 h3 h4 h5 h6 h7 h8 h9 = absurd (h5 room reason refl)
  sends_are (ask.Invite room user reason) is h0 h1 h2 h3 h4 h5 h6 h7 h8 h9 = absurd (h6 room user reason refl)
  sends_are (ask.Kick room user reason) is h0 h1 h2 h3 h4 h5 h6 h7 h8 h9 = absurd (h7 room user reason refl)
  sends_are (ask.Ban room user reason) is h0 h1 h2 h3 h4 h5 h6 h7 h8 h9 = absurd (h8 room user reason refl)
  sends_are (ask.Unban room user reason) is h0 h1 h2 h3 h4 h5 h6 h7 h8 h9 = absurd (h9 room user reason refl)
  sends_are (ask.Messages room backward from to limit filter) is h0 h1 h2 h3 h4 h5 h6 h7 h8 h9 = absurd cc
  sends_are (ask.Sync since filter full after timeout) is h0 h1 h2 h3 h4 h5 h6 h7 h8 h9 = absurd cc
  sends_are (ask.PutFilter filter) is h0 h1 h2 h3 h4 h5 h6 h7 h8 h9 = absurd cc
  sends_are (ask.GetFilter id) is h0 h1 h2 h3 h4 h5 h6 h7 h8 h9 = absurd cc
  sends_are (ask.PutAccount room kind content) is h0 h1 h2 h3 h4 h5 h6 h7 h8 h9 = absurd cc
  sends_are (ask.GetAccount room kind) is h0 h1 h2 h3 h4 h5 h6 h7 h8 h9 = absurd cc
  sends_are (ask.Tags room) is h0 h1 h2 h3 h4 h5 h6 h7 h8 h9 = absurd cc
  sends_are (ask.PutTag room tag body) is h0 h1 h2 h3 h4 h5 h6 h7 h8 h9 = absurd cc
  sends_are (ask.DeleteTag room tag) is h0 h1 h2 h3 h4 h5 h6 h7 h8 h9 = absurd cc
  sends_are (ask.Receipt room None event) is h0 h1 h2 h3 h4 h5 h6 h7 h8 h9 = absurd cc
  sends_are (ask.Receipt room (Some kind) event) is h0 h1 h2 h3 h4 h5 h6 h7 h8 h9 = absurd cc
  sends_are (ask.ReadMarkers room None read private) is h0 h1 h2 h3 h4 h5 h6 h7 h8 h9 = absurd cc
  sends_are (ask.ReadMarkers room (Some event) read private) is h0 h1 h2 h3 h4 h5 h6 h7 h8 h9 = absurd cc
  sends_are (ask.PushRules inner) is h0 h1 h2 h3 h4 h5 h6 h7 h8 h9 = absurd cc
  sends_are (ask.GetRule kind id) is h0 h1 h2 h3 h4 h5 h6 h7 h8 h9 = absurd cc
  sends_are (ask.PutRule kind id body before after) is h0 h1 h2 h3 h4 h5 h6 h7 h8 h9 = absurd cc
  sends_are (ask.DeleteRule kind id) is h0 h1 h2 h3 h4 h5 h6 h7 h8 h9 = absurd cc
  sends_are (ask.GetEnabled kind id) is h0 h1 h2 h3 h4 h5 h6 h7 h8 h9 = absurd cc
  sends_are (ask.PutEnabled kind id on) is h0 h1 h2 h3 h4 h5 h6 h7 h8 h9 = absurd cc
  sends_are (ask.GetActions kind id) is h0 h1 h2 h3 h4 h5 h6 h7 h8 h9 = absurd cc
  sends_are (ask.PutActions kind id body) is h0 h1 h2 h3 h4 h5 h6 h7 h8 h9 = absurd cc

  -- of filters that are stored
  pub files_are : (a : Ask) → kind_in (asked site now who a) ≡ kinds.Files → (filter : Json) × (a ≡ ask.PutFilter filter)
  files_are ask.WhoAmI is = absurd cc
  files_are (ask.CreateRoom body) is = absurd cc
  files_are ask.JoinedRooms is = absurd cc
  files_are (ask.Send room kind txn content) is = absurd cc
  files_are (ask.PutState room kind key content) is = absurd cc
  files_are (ask.GetState room kind key) is = absurd cc
  files_are (ask.AllState room) is = absurd cc
  files_are (ask.Members room membership not_membership) is = absurd cc
  files_are (ask.OneEvent room event) is = absurd cc
  files_are (ask.Redact room event txn reason) is = absurd cc
  files_are (ask.Join room reason) is = absurd cc
  files_are (ask.Leave room reason) is = absurd cc
  files_are (ask.Invite room user reason) is = absurd cc
  files_are (ask.Kick room user reason) is = absurd cc
  files_are (ask.Ban room user reason) is = absurd cc
  files_are (ask.Unban room user reason) is = absurd cc
  files_are (ask.Messages room backward from to limit filter) is = absurd cc
  files_are (ask.Sync since filter full after timeout) is = absurd cc
  files_are (ask.PutFilter filter) is = (filter, refl)
  files_are (ask.GetFilter id) is = absurd cc
  files_are (ask.PutAccount room kind content) is = absurd cc
  files_are (ask.GetAccount room kind) is = absurd cc
  files_are (ask.Tags room) is = absurd cc
  files_are (ask.PutTag room tag body) is = absurd cc
  files_are (ask.DeleteTag room tag) is = absurd cc
  files_are (ask.Receipt room None event) is = absurd cc
  files_are (ask.Receipt room (Some kind) event) is = absurd cc
  files_are (ask.ReadMarkers room None read private) is = absurd cc
  files_are (ask.ReadMarkers room (Some event) read private) is = absurd cc
  files_are (ask.PushRules inner) is = absurd cc
  files_are (ask.GetRule kind id) is = absurd cc
  files_are (ask.PutRule kind id body before after) is = absurd cc
  files_are (ask.DeleteRule kind id) is = absurd cc
  files_are (ask.GetEnabled kind id) is = absurd cc
  files_are (ask.PutEnabled kind id on) is = absurd cc
  files_are (ask.GetActions kind id) is = absurd cc
  files_are (ask.PutActions kind id body) is = absurd cc

  -- of writes of account data
  pub puts_are : (a : Ask) → kind_in (asked site now who a) ≡ kinds.Puts
      → ((room : Option (List ℕ)) (kind : List ℕ) (content : Json) → a ≡ ask.PutAccount room kind content → ⊥)
      → ((room tag : List ℕ) (body : Json) → a ≡ ask.PutTag room tag body → ⊥)
      → ((room tag : List ℕ) → a ≡ ask.DeleteTag room tag → ⊥)
      → ((room : List ℕ) (kind : Option ReceiptKind) (event : List ℕ) → a ≡ ask.Receipt room kind event → ⊥)
      → ((kind : _) (id : List ℕ) (body : Json) (before after : Option (List ℕ)) → a ≡ ask.PutRule kind id body before after → ⊥)
      → ((kind : _) (id : List ℕ) → a ≡ ask.DeleteRule kind id → ⊥)
      → ((kind : _) (id : List ℕ) (on : Bool) → a ≡ ask.PutEnabled kind id on → ⊥)
      → ((kind : _) (id : List ℕ) (body : Json) → a ≡ ask.PutActions kind id body → ⊥) → ⊥
  puts_are ask.WhoAmI is h0 h1 h2 h3 h4 h5 h6 h7 = absurd cc
  puts_are (ask.CreateRoom body) is h0 h1 h2 h3 h4 h5 h6 h7 = absurd cc
  puts_are ask.JoinedRooms is h0 h1 h2 h3 h4 h5 h6 h7 = absurd cc
  puts_are (ask.Send room kind txn content) is h0 h1 h2 h3 h4 h5 h6 h7 = absurd cc
  puts_are (ask.PutState room kind key content) is h0 h1 h2 h3 h4 h5 h6 h7 = absurd cc
  puts_are (ask.GetState room kind key) is h0 h1 h2 h3 h4 h5 h6 h7 = absurd cc
  puts_are (ask.AllState room) is h0 h1 h2 h3 h4 h5 h6 h7 = absurd cc
  puts_are (ask.Members room membership not_membership) is h0 h1 h2 h3 h4 h5 h6 h7 = absurd cc
  puts_are (ask.OneEvent room event) is h0 h1 h2 h3 h4 h5 h6 h7 = absurd cc
  puts_are (ask.Redact room event txn reason) is h0 h1 h2 h3 h4 h5 h6 h7 = absurd cc
  puts_are (ask.Join room reason) is h0 h1 h2 h3 h4 h5 h6 h7 = absurd cc
  puts_are (ask.Leave room reason) is h0 h1 h2 h3 h4 h5 h6 h7 = absurd cc
  puts_are (ask.Invite room user reason) is h0 h1 h2 h3 h4 h5 h6 h7 = absurd cc
  puts_are (ask.Kick room user reason) is h0 h1 h2 h3 h4 h5 h6 h7 = absurd cc
  puts_are (ask.Ban room user reason) is h0 h1 h2 h3 h4 h5 h6 h7 = absurd cc
  puts_are (ask.Unban room user reason) is h0 h1 h2 h3 h4 h5 h6 h7 = absurd cc
  puts_are (ask.Messages room backward from to limit filter) is h0 h1 h2 h3 h4 h5 h6 h7 = absurd cc
  puts_are (ask.Sync since filter full after timeout) is h0 h1 h2 h3 h4 h5 h6 h7 = absurd cc
  puts_are (ask.PutFilter filter) is h0 h1 h2 h3 h4 h5 h6 h7 = absurd cc
  puts_are (ask.GetFilter id) is h0 h1 h2 h3 h4 h5 h6 h7 = absurd cc
  puts_are (ask.PutAccount room kind content) is h0 h1 h2 h3 h4 h5 h6 h7 = absurd (h0 room kind content refl)
  puts_are (ask.GetAccount room kind) is h0 h1 h2 h3 h4 h5 h6 h7 = absurd cc
  puts_are (ask.Tags room) is h0 h1 h2 h3 h4 h5 h6 h7 = absurd cc
  puts_are (ask.PutTag room tag body) is h0 h1 h2 h3 h4 h5 h6 h7 = absurd (h1 room tag body refl)
  puts_are (ask.DeleteTag room tag) is h0 h1 h2 h3 h4 h5 h6 h7 = absurd (h2 room tag refl)
  puts_are (ask.Receipt room None event) is h0 h1 h2 h3 h4 h5 h6 h7 = absurd (h3 room None event refl)
  puts_are (ask.Receipt room (Some kind) event) is h0 h1 h2 h3 h4 h5 h6 h7 = absurd cc
  puts_are (ask.ReadMarkers room None read private) is h0 h1 h2 h3 h4 h5 h6 h7 = absurd cc
  puts_are (ask.ReadMarkers room (Some event) read private) is h0 h1 h2 h3 h4 h5 h6 h7 = absurd cc
  puts_are (ask.PushRules inner) is h0 h1 h2 h3 h4 h5 h6 h7 = absurd cc
  puts_are (ask.GetRule kind id) is h0 h1 h2 h3 h4 h5 h6 h7 = absurd cc
  puts_are (ask.PutRule kind id body before after) is h0 h1 h2 h3 h4 h5 h6 h7 = absurd (h4 kind id body before after refl)
  puts_are (ask.DeleteRule kind id) is h0 h1 h2 h3 h4 h5 h6 h7 = absurd (h5 kind id refl)
  puts_are (ask.GetEnabled kind id) is h0 h1 h2 h3 h4 h5 h6 h7 = absurd cc
  puts_are (ask.PutEnabled kind id on) is h0 h1 h2 h3 h4 h5 h6 h7 = absurd (h6 kind id on refl)
  puts_are (ask.GetActions kind id) is h0 h1 h2 h3 h4 h5 h6 h7 = absurd cc
  puts_are (ask.PutActions kind id body) is h0 h1 h2 h3 h4 h5 h6 h7 = absurd (h7 kind id body refl)

  -- a receipt of a kind isn't account data
  pub no_receipt : (a : Ask) (room event : List ℕ) (o : Option ReceiptKind) (kind : ReceiptKind) → a ≡ ask.Receipt room o event → o ≡ Some kind → kind_in (asked site now who a) ≡ kinds.Puts → ⊥
  no_receipt a room event o kind is some puts =
      let wrong : kinds.Marks ≡ kinds.Puts = subst (λ x. kind_in (asked site now who x) ≡ kinds.Puts) (is ∙ ap (λ k. ask.Receipt room k event) some) puts in
      absurd cc
