-- Codes, by which proofs tell boards and calls apart: those of their parts.
use Rattle.std.specs.Prelude.{◌≡◌, ◌⊎◌, refl, ℕ, zero, suc, Bool, List, Option}
use Rattle.std.proofs.Common.{inl, inr}
use Rattle.std.specs.Coded.{Coded, code_by, coded×, coded⊎, coded_list, coded_option, coded_ℕ, coded_bool}
use Rattle.board_core.specs.Kept.{Key}
use Rattle.tableau.specs.Settled.{Settled, coded_settled}
use Rattle.board_core.specs.Board.{Ticket, Event, open_keys, claim, deposit, give_back, look, gather, close, no_memory, Reply, opened, claimed, was_empty, was_closed, deposited, given_back, looked, gathered, closed_now, memory}
use Rattle.goal_board.specs.Calls.{Board, BoardCall}

abbrev coded_key : Coded Key
coded_key = coded_list coded_ℕ

abbrev coded_ticket : Coded Ticket
coded_ticket = code_by (ℕ × Key) (coded× coded_ℕ coded_key) (λ t. (t.number, t.key)) (λ p. record { number = p.0; key = p.1 }) (λ _. refl)

abbrev pub coded_board : Coded Board
coded_board = code_by (List Key × (List (Key × Settled) × (List Ticket × (ℕ × (ℕ × Bool))))) (coded× (coded_list coded_key) (coded× (coded_list (coded× coded_key coded_settled)) (coded× (coded_list coded_ticket) (coded× coded_ℕ (coded× coded_ℕ coded_bool)))))
    (λ s. (s.present, (s.kept, (s.out, (s.next, (s.version, s.closed)))))) (λ p. record { present = p.0; kept = p.1.0; out = p.1.1.0; next = p.1.1.1.0; version = p.1.1.1.1.0; closed = p.1.1.1.1.1 }) (λ _. refl)

-- ---- of events: those without parts have numbers

abbrev EventParts : Type 0
EventParts = List Key ⊎ ((Ticket × Settled) ⊎ (Ticket ⊎ ℕ))

abbrev event_parts : Event Settled → EventParts
event_parts (open_keys ks) = inl ks
event_parts (deposit c a) = inr (inl (c, a))
event_parts (give_back c) = inr (inr (inl c))
event_parts claim = inr (inr (inr 0))
event_parts look = inr (inr (inr 1))
event_parts gather = inr (inr (inr 2))
event_parts close = inr (inr (inr 3))
event_parts no_memory = inr (inr (inr 4))

abbrev numbered_event : ℕ → Event Settled
numbered_event zero = claim
numbered_event (suc zero) = look
numbered_event (suc (suc zero)) = gather
numbered_event (suc (suc (suc zero))) = close
numbered_event (suc (suc (suc (suc n)))) = no_memory

abbrev event_of : EventParts → Event Settled
event_of (inl ks) = open_keys ks
event_of (inr (inl p)) = deposit p.0 p.1
event_of (inr (inr (inl c))) = give_back c
event_of (inr (inr (inr n))) = numbered_event n

pub same_event : (e : Event Settled) → event_of (event_parts e) ≡ e
same_event (open_keys ks) = refl
same_event (deposit c a) = refl
same_event (give_back c) = refl
same_event claim = refl
same_event look = refl
same_event gather = refl
same_event close = refl
same_event no_memory = refl

abbrev coded_event : Coded (Event Settled)
coded_event = code_by EventParts (coded⊎ (coded_list coded_key) (coded⊎ (coded× coded_ticket coded_settled) (coded⊎ coded_ticket coded_ℕ))) event_parts event_of same_event

-- ---- of replies

abbrev ReplyParts : Type 0
ReplyParts = (ℕ × ℕ) ⊎ (Ticket ⊎ (ℕ ⊎ ((ℕ × (ℕ × (ℕ × Bool))) ⊎ (List (Option Settled) ⊎ ℕ))))

abbrev reply_parts : Reply Settled → ReplyParts
reply_parts (opened v d) = inl (v, d)
reply_parts (claimed c) = inr (inl c)
reply_parts (deposited n) = inr (inr (inl n))
reply_parts (looked v d p c) = inr (inr (inr (inl (v, (d, (p, c))))))
reply_parts (gathered xs) = inr (inr (inr (inr (inl xs))))
reply_parts was_empty = inr (inr (inr (inr (inr 0))))
reply_parts was_closed = inr (inr (inr (inr (inr 1))))
reply_parts given_back = inr (inr (inr (inr (inr 2))))
reply_parts closed_now = inr (inr (inr (inr (inr 3))))
reply_parts memory = inr (inr (inr (inr (inr 4))))

abbrev numbered_reply : ℕ → Reply Settled
numbered_reply zero = was_empty
numbered_reply (suc zero) = was_closed
numbered_reply (suc (suc zero)) = given_back
numbered_reply (suc (suc (suc zero))) = closed_now
numbered_reply (suc (suc (suc (suc n)))) = memory

abbrev reply_of : ReplyParts → Reply Settled
reply_of (inl p) = opened p.0 p.1
reply_of (inr (inl c)) = claimed c
reply_of (inr (inr (inl n))) = deposited n
reply_of (inr (inr (inr (inl p)))) = looked p.0 p.1.0 p.1.1.0 p.1.1.1
reply_of (inr (inr (inr (inr (inl xs))))) = gathered xs
reply_of (inr (inr (inr (inr (inr n))))) = numbered_reply n

pub same_reply : (r : Reply Settled) → reply_of (reply_parts r) ≡ r
same_reply (opened v d) = refl
same_reply (claimed c) = refl
same_reply (deposited n) = refl
same_reply (looked v d p c) = refl
same_reply (gathered xs) = refl
same_reply was_empty = refl
same_reply was_closed = refl
same_reply given_back = refl
same_reply closed_now = refl
same_reply memory = refl

abbrev coded_reply : Coded (Reply Settled)
coded_reply =
    code_by ReplyParts (coded⊎ (coded× coded_ℕ coded_ℕ) (coded⊎ coded_ticket (coded⊎ coded_ℕ (coded⊎ (coded× coded_ℕ (coded× coded_ℕ (coded× coded_ℕ coded_bool))) (coded⊎ (coded_list (coded_option coded_settled)) coded_ℕ)))))
    reply_parts reply_of same_reply

abbrev pub coded_call : Coded BoardCall
coded_call = code_by (Event Settled × Reply Settled) (coded× coded_event coded_reply) (λ c. (c.event, c.reply)) (λ p. record { event = p.0; reply = p.1 }) (λ _. refl)
