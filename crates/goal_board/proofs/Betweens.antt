-- Own calls, with others' work between them.
use Rattle.std.proofs.Common.{◌≡◌, ◌∙◌, refl, sym, ap, subst, ℕ, Bool, true, false, not, cond, IsTrue, List, [], ◌∷◌, ◌++◌, fold, Option, Some, None, inl, inr}
use Rattle.std.specs.List.{list_all}
use Rattle.std.proofs.lemmas.List.{append-nil}
use Rattle.tableau.specs.Settled.{Settled}
use Rattle.board_core.specs.Kept.{Key}
use Rattle.board_core.specs.Board.{Event, open_keys, claim, deposit, give_back, look, gather, close, no_memory, gathered}
use Rattle.board_core.specs.Step.{step, wanted, with_claim}
use Rattle.goal_board.specs.Calls.{Board, BoardCall, made, Plays, Settles, Works}
use Rattle.goal_board.specs.Calls as calls
use Rattle.goal_board.specs.Between.{Merged, nothing, from_own, from_theirs, is_work, Between, is_idle, has_effect, effects, keys_by, version_by, closed_by, AreDecided}
use Rattle.goal_board.specs.Working.{Working, Settling}
use Rattle.goal_board.specs.Working as working
use Rattle.goal_board.specs.Laws.{OthersDecideNothing, EffectsAreBetween, GatheredIsSettled, WorkIsWorks, BetweensAdd, AnyWorkers}
use Rattle.logic_core.proofs.Booleans.{both_true, all_true}
use Rattle.goal_board.proofs.Played.{plays_more}

-- ---- one after another

merged_more : {xs ys zs xs' ys' zs' : List BoardCall} → Merged xs ys zs → Merged xs' ys' zs' → Merged (xs ++ xs') (ys ++ ys') (zs ++ zs')
merged_more nothing k = k
merged_more (from_own h) k = from_own (merged_more h k)
merged_more (from_theirs h) k = from_theirs (merged_more h k)

all_more : {A : Type 0} (p : A → Bool) (xs ys : List A) → IsTrue (list_all p xs) → IsTrue (list_all p ys) → IsTrue (list_all p (xs ++ ys))
all_more p [] ys h k = k
all_more p (x ∷ xs) ys h k = let b = both_true (p x) (list_all p xs) h in all_true (p x) (list_all p (xs ++ ys)) b.0 (all_more p xs ys b.1 k)

none_more : {A : Type 0} (xs ys : List A) → xs ≡ [] → ys ≡ [] → xs ++ ys ≡ []
none_more xs ys h k = ap (λ l. l ++ ys) h ∙ k

pub betweens_add : BetweensAdd
betweens_add workers s t u es fs h k = record {
  theirs = h.theirs ++ k.theirs;
  calls = h.calls ++ k.calls;
  together = merged_more h.together k.together;
  are_work = all_more (λ (c : BoardCall). is_work c.event) h.theirs k.theirs h.are_work k.are_work;
  no_workers = λ none. none_more h.theirs k.theirs (h.no_workers none) (k.no_workers none);
  plays = plays_more s t u h.calls k.calls h.plays k.plays;
}

-- no call at all
pub stays_between : (workers : ℕ) (s : Board) → Between workers s [] s
stays_between workers s = record { theirs = []; calls = []; together = nothing; are_work = refl; no_workers = λ none. refl; plays = refl }

pub any_workers : AnyWorkers
any_workers v w s t own some h = record { theirs = h.theirs; calls = h.calls; together = h.together; are_work = h.are_work; no_workers = λ none. absurd (some none); plays = h.plays }

-- ---- calls that change nothing

pub idle_same : (s : Board) (e : Event Settled) → is_idle e ≡ true → step s e ≡ s
idle_same s (open_keys ks) h = absurd (cc)
idle_same s claim h = absurd (cc)
idle_same s (deposit c a) h = absurd (cc)
idle_same s (give_back c) h = absurd (cc)
idle_same s look h = refl
idle_same s gather h = refl
idle_same s close h = absurd (cc)
idle_same s no_memory h = refl

-- the calls without these
record HaveEffects (s t : Board) (own theirs : List BoardCall) : Type 0 where
  pub calls : List BoardCall
  pub together : Merged (effects own) theirs calls
  pub plays : Plays s calls t

have_effects : {own theirs zs : List BoardCall} → Merged own theirs zs → (s t : Board) → Plays s zs t → HaveEffects s t own theirs
have_effects nothing s t p = record { calls = []; together = nothing; plays = p }
have_effects (from_theirs {y = y} h) s t p =
    let k = have_effects h (step s y.event) t p.2 in
    record { calls = y ∷ k.calls; together = from_theirs k.together; plays = (p.0, p.1, k.plays) }
have_effects (from_own {x = x} {xs = xs} {ys = ys} h) s t p = by_test (is_idle x.event) refl (have_effects h (step s x.event) t p.2)
  where
    by_test : (b : Bool) → is_idle x.event ≡ b → HaveEffects (step s x.event) t xs ys → HaveEffects s t (x ∷ xs) ys
    by_test true is k =
        let same : step s x.event ≡ s = idle_same s x.event is in
        let left : effects (x ∷ xs) ≡ effects xs = ap (λ b. cond (not b) (x ∷ effects xs) (effects xs)) is in
        record {
          calls = k.calls;
          together = subst (λ own. Merged own ys k.calls) (sym left) k.together;
          plays = subst (λ (b : Board). Plays b k.calls t) same k.plays;
        }
    by_test false is k =
        let stays : effects (x ∷ xs) ≡ x ∷ effects xs = ap (λ b. cond (not b) (x ∷ effects xs) (effects xs)) is in
        record {
          calls = x ∷ k.calls;
          together = subst (λ own. Merged own ys (x ∷ k.calls)) (sym stays) (from_own k.together);
          plays = (p.0, p.1, k.plays);
        }

pub effects_are_between : EffectsAreBetween
effects_are_between workers s t own h =
    let k = have_effects h.together s t h.plays in
    record { theirs = h.theirs; calls = k.calls; together = k.together; are_work = h.are_work; no_workers = h.no_workers; plays = k.plays }

-- ---- work without them

effects_more : (xs ys : List BoardCall) → effects (xs ++ ys) ≡ effects xs ++ effects ys
effects_more [] ys = refl
effects_more (x ∷ xs) ys = by_test (has_effect x) (effects_more xs ys)
  where
    by_test : (b : Bool) → effects (xs ++ ys) ≡ effects xs ++ effects ys → cond b (x ∷ effects (xs ++ ys)) (effects (xs ++ ys)) ≡ cond b (x ∷ effects xs) (effects xs) ++ effects ys
    by_test true h = ap (λ l. x ∷ l) h
    by_test false h = h

-- a gather behind them leaves none
without_gather : (xs : List BoardCall) (shown : List (Option Settled)) → effects (xs ++ made gather (gathered shown) ∷ []) ≡ effects xs
without_gather xs shown = effects_more xs (made gather (gathered shown) ∷ []) ∙ append-nil (effects xs)

settles : {es : List BoardCall} → Settling es → Settles (effects es)
settles working.Settling.no_more = calls.Settles.no_more
settles (working.Settling.settled h) = calls.Settles.settled (settles h)
settles (working.Settling.none_left h) = calls.Settles.none_left (settles h)
settles (working.Settling.looked h) = settles h

works : {es : List BoardCall} → Working es → Works (effects es)
works working.Working.no_more = calls.Works.no_more
works (working.Working.settled h) = calls.Works.settled (works h)
works (working.Working.gave_back h) = calls.Works.gave_back (works h)
works (working.Working.none_left h) = calls.Works.none_left (works h)
works (working.Working.looked h) = works h
works (working.Working.refused h) = works h

pub gathered_is_settled : GatheredIsSettled
gathered_is_settled own shown h = subst Settles (sym (ap effects h.is ∙ without_gather h.before shown)) (settles h.are)

pub work_is_works : WorkIsWorks
work_is_works own h = elim h.is [
  | inl same ↦ subst Works (sym (ap effects same)) (works h.are)
  | inr last ↦ subst Works (sym (ap effects last.1 ∙ without_gather h.before last.0)) (works h.are)
]

-- ---- what is decided

record IsDecided (s : Board) (e : Event Settled) : Type 0 where
  pub present : (step s e).present ≡ keys_by s.present e
  pub version : (step s e).version ≡ version_by s.version e
  pub closed : (step s e).closed ≡ closed_by s.closed e

abbrev Same : Board → Board → Type 0
Same s t = (t.present ≡ s.present) × (t.version ≡ s.version) × (t.closed ≡ s.closed)

claims_same : (s : Board) (o : Option Key) → Same s (with_claim s o)
claims_same s None = (refl, refl, refl)
claims_same s (Some k) = (refl, refl, refl)

unless_closed : (b : Bool) (s t : Board) → Same s t → Same s (cond b s t)
unless_closed true s t h = (refl, refl, refl)
unless_closed false s t h = h

decided : (s : Board) (e : Event Settled) → IsDecided s e
decided s (open_keys ks) = record { present = refl; version = refl; closed = refl }
decided s claim = let h = unless_closed s.closed s (with_claim s (wanted s)) (claims_same s (wanted s)) in record { present = h.0; version = h.1; closed = h.2 }
decided s (deposit c a) = record { present = refl; version = refl; closed = refl }
decided s (give_back c) = record { present = refl; version = refl; closed = refl }
decided s look = record { present = refl; version = refl; closed = refl }
decided s gather = record { present = refl; version = refl; closed = refl }
decided s close = record { present = refl; version = refl; closed = refl }
decided s no_memory = record { present = refl; version = refl; closed = refl }

work_decides_nothing : (e : Event Settled) (ks : List Key) (n : ℕ) (b : Bool) → is_work e ≡ true → (keys_by ks e ≡ ks) × (version_by n e ≡ n) × (closed_by b e ≡ b)
work_decides_nothing (open_keys js) ks n b h = absurd (cc)
work_decides_nothing claim ks n b h = (refl, refl, refl)
work_decides_nothing (deposit c a) ks n b h = (refl, refl, refl)
work_decides_nothing (give_back c) ks n b h = (refl, refl, refl)
work_decides_nothing look ks n b h = absurd (cc)
work_decides_nothing gather ks n b h = absurd (cc)
work_decides_nothing close ks n b h = absurd (cc)
work_decides_nothing no_memory ks n b h = absurd (cc)

abbrev last_keys : List Key → List BoardCall → List Key
last_keys ks own = fold (λ js (c : BoardCall). keys_by js c.event) ks own

abbrev last_version : ℕ → List BoardCall → ℕ
last_version n own = fold (λ m (c : BoardCall). version_by m c.event) n own

abbrev last_closed : Bool → List BoardCall → Bool
last_closed b own = fold (λ a (c : BoardCall). closed_by a c.event) b own

pub are_decided : {own theirs zs : List BoardCall} → Merged own theirs zs → IsTrue (list_all (λ (c : BoardCall). is_work c.event) theirs) → (s t : Board) → Plays s zs t → AreDecided s own t
are_decided nothing work s t p = record { present = ap (λ (b : Board). b.present) (sym p); version = ap (λ (b : Board). b.version) (sym p); closed = ap (λ (b : Board). b.closed) (sym p) }
are_decided (from_own {x = x} {xs = xs} h) work s t p =
    let d = decided s x.event in
    let k = are_decided h work (step s x.event) t p.2 in
    record {
      present = k.present ∙ ap (λ ks. last_keys ks xs) d.present;
      version = k.version ∙ ap (λ n. last_version n xs) d.version;
      closed = k.closed ∙ ap (λ b. last_closed b xs) d.closed;
    }
are_decided (from_theirs {y = y} {xs = xs} {ys = ys} h) work s t p =
    let parts = both_true (is_work y.event) (list_all (λ (c : BoardCall). is_work c.event) ys) work in
    let d = decided s y.event in
    let n = work_decides_nothing y.event s.present s.version s.closed parts.0 in
    let k = are_decided h parts.1 (step s y.event) t p.2 in
    record {
      present = k.present ∙ ap (λ ks. last_keys ks xs) (d.present ∙ n.0);
      version = k.version ∙ ap (λ n. last_version n xs) (d.version ∙ n.1);
      closed = k.closed ∙ ap (λ b. last_closed b xs) (d.closed ∙ n.2);
    }

pub others_decide_nothing : OthersDecideNothing
others_decide_nothing workers s t own h = are_decided h.together h.are_work s t h.plays
