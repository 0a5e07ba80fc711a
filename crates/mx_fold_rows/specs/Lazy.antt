-- Lazy members (Client-Server API, Lazy-loading room members): bob and carol join at 9 and 10, bob's member event changes at 12.
use Rattle.std.specs.Prelude.{◌≡◌, true, false, [], ◌∷◌, Some, None}
use Rattle.mx_folding.specs.Stories.{Sync}
use Rattle.mx_view.specs.Rooms.{hero_keys}
use Rattle.mx_fold_rows.specs.Events.{alice, bob, carol, three_users}
use Rattle.mx_fold_rows.specs.Heard.{lazily, token, asks, asks_state_after, nobody, Whole, Change, says, page}

-- of a new room the member events of the section's sender, of the heroes and one's own
abbrev pub FirstMembers : Type 0
FirstMembers = says alice three_users lazily (asks 1) (hero_keys (bob ∷ carol ∷ [])) None (token 10 10)
    ≡ Whole true 9 (1 ∷ 2 ∷ 3 ∷ 4 ∷ 5 ∷ 6 ∷ 8 ∷ 9 ∷ []) (10 ∷ [])

-- without heroes the sender's and one's own alone
abbrev pub FirstSender : Type 0
FirstSender = says alice three_users lazily (asks 1) nobody None (token 13 13) ≡ Whole true 12 (1 ∷ 2 ∷ 3 ∷ 4 ∷ 5 ∷ 6 ∷ 12 ∷ []) (13 ∷ [])

-- with a hero who sent nothing
abbrev pub FirstHero : Type 0
FirstHero = says alice three_users lazily (asks 1) (hero_keys (carol ∷ [])) None (token 13 13) ≡ Whole true 12 (1 ∷ 2 ∷ 3 ∷ 4 ∷ 5 ∷ 6 ∷ 10 ∷ 12 ∷ []) (13 ∷ [])

-- the sender's member event once more, as it isn't after b
abbrev pub SentOnceMore : Type 0
SentOnceMore = says alice three_users lazily (asks 1) nobody (Some (token 10 10)) (token 11 10) ≡ Change false 10 (9 ∷ []) (11 ∷ [])

-- with the summary its heroes' members
abbrev pub HeroesSent : Type 0
HeroesSent = says alice three_users lazily (asks 1) (hero_keys (carol ∷ bob ∷ [])) (Some (token 11 10)) (token 12 10) ≡ Change false 11 (9 ∷ 10 ∷ []) (12 ∷ [])

-- a member event after b is omitted, and with redundant members it is sent
abbrev pub MemberOmitted : Type 0
MemberOmitted = says alice three_users lazily (asks 1) nobody (Some (token 12 10)) (token 13 10) ≡ Change false 12 [] (13 ∷ [])

abbrev pub asks_redundant : Sync
asks_redundant = record (asks 1) { redundant = true }

abbrev pub RedundantSent : Type 0
RedundantSent = says alice three_users lazily asks_redundant nobody (Some (token 12 10)) (token 13 10) ≡ Change false 12 (12 ∷ []) (13 ∷ [])

-- with b at 12 it isn't after b
abbrev pub SentByBase : Type 0
SentByBase = says alice three_users lazily (asks 1) nobody (Some (token 12 12)) (token 13 12) ≡ Change false 12 (12 ∷ []) (13 ∷ [])

-- with the state after the timeline it is the state at the token
abbrev pub MembersAfter : Type 0
MembersAfter = says alice three_users lazily (asks_state_after 1) (hero_keys (bob ∷ carol ∷ [])) None (token 10 10)
    ≡ Whole true 9 (1 ∷ 2 ∷ 3 ∷ 4 ∷ 5 ∷ 6 ∷ 9 ∷ 10 ∷ []) (10 ∷ [])

-- a page has its senders' member events, of the state where its token was cut
abbrev pub PageMembers : Type 0
PageMembers = page alice three_users lazily 1 10 13 0 11 ≡ (true, 10, 9 ∷ [], 11 ∷ [])
