-- Limits and pages: a room of six state events and twelve messages.
use Rattle.std.specs.Prelude.{◌≡◌, true, false, [], ◌∷◌, Some, None}
use Rattle.mx_fold_rows.specs.Events.{alice, carol, long_room, shared_room}
use Rattle.mx_fold_rows.specs.Heard.{everything, token, asks, asks_full_state, nobody, Silent, Whole, Change, says, page}

-- the last ten events, and the state before them
abbrev pub LastTen : Type 0
LastTen = says alice long_room everything (asks 10) nobody None (token 18 18)
    ≡ Whole true 8 (1 ∷ 2 ∷ 3 ∷ 4 ∷ 5 ∷ 6 ∷ []) (9 ∷ 10 ∷ 11 ∷ 12 ∷ 13 ∷ 14 ∷ 15 ∷ 16 ∷ 17 ∷ 18 ∷ [])

-- a page that has the rest has no `end`, nor has one whose limit is just reached
abbrev pub RestOnePage : Type 0
RestOnePage = page alice long_room everything 10 18 18 0 8 ≡ (false, 0, [], 1 ∷ 2 ∷ 3 ∷ 4 ∷ 5 ∷ 6 ∷ 7 ∷ 8 ∷ [])

abbrev pub RestJustFits : Type 0
RestJustFits = page alice long_room everything 8 18 18 0 8 ≡ (false, 0, [], 1 ∷ 2 ∷ 3 ∷ 4 ∷ 5 ∷ 6 ∷ 7 ∷ 8 ∷ [])

-- a page of three goes on before its first event
abbrev pub PageOfThree : Type 0
PageOfThree = page alice long_room everything 3 18 18 0 8 ≡ (true, 5, [], 6 ∷ 7 ∷ 8 ∷ [])

-- without a timeline the state is that at the token
abbrev pub NoTimeline : Type 0
NoTimeline = says alice long_room everything (asks 0) nobody None (token 18 18) ≡ Whole true 18 (1 ∷ 2 ∷ 3 ∷ 4 ∷ 5 ∷ 6 ∷ []) []

-- a later reply has the state that came after the token alone, and with full_state all of it
abbrev pub LaterState : Type 0
LaterState = says alice long_room everything (asks 1) nobody (Some (token 4 4)) (token 18 4) ≡ Change true 17 (5 ∷ 6 ∷ []) (18 ∷ [])

abbrev pub FullState : Type 0
FullState = says alice long_room everything (asks_full_state 1) nobody (Some (token 4 4)) (token 18 4) ≡ Change true 17 (1 ∷ 2 ∷ 3 ∷ 4 ∷ 5 ∷ 6 ∷ []) (18 ∷ [])

-- a room that has nothing new isn't in the reply, nor is one in which the user never was
abbrev pub NothingNew : Type 0
NothingNew = says alice shared_room everything (asks 10) nobody (Some (token 10 10)) (token 10 10) ≡ Silent

abbrev pub NeverThere : Type 0
NeverThere = says carol shared_room everything (asks 10) nobody None (token 10 10) ≡ Silent
