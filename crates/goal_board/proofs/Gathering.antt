-- What a gather shows, where every present goal is answered.
use Rattle.std.proofs.Common.{◌≡◌, ◌∙◌, refl, sym, ap, subst, ℕ, ◌+◌, Bool, true, false, ◌||◌, cond, IsTrue, List, [], ◌∷◌, ◌++◌, map, find, fold, Option, Some, None, bytes_eq}
use Rattle.std.specs.Prelude.{is_some}
use Rattle.std.specs.List.{list_all}
use Rattle.std.specs.Option.{option_map}
use Rattle.obligation_text.specs.Asked.{key_of, KeysTellApart}
use Rattle.tableau.specs.Settled.{Settled, IsRight}
use Rattle.bv_base.specs.Text.{is_among}
use Rattle.board_core.specs.Kept.{Key, kept_keys, kept_at, with_answer}
use Rattle.board_core.proofs.Lists.{map-last}
use Rattle.board_core.specs.Board.{Event, open_keys, claim, deposit, give_back, look, gather, close, no_memory, gathered, was_closed, opened, Reply}
use Rattle.board_core.specs.Step.{step, reply, wanted, with_claim, claim_reply}
use Rattle.board_core.specs.Sound.{IsSound}
use Rattle.board_core.specs.Laws.{ShowsRight}
use Rattle.board_core.proofs.Soundness.{step_sound}
use Rattle.board_core.proofs.Settling.{shows_right}
use Rattle.goal_board.specs.Calls.{Board, BoardCall, made, answer_key, Plays, all_kept}
use Rattle.goal_board.specs.Between.{Merged, nothing, from_own, from_theirs, is_work, Between, keys_by, AreDecided}
use Rattle.goal_board.specs.Working.{Settling, IsGathered, shows_all}
use Rattle.goal_board.specs.Working as working
use Rattle.goal_board.specs.Laws.{GatheredAreTheSearchs, OpensTellVersion}
use Rattle.logic_core.proofs.Booleans.{both_true, all_true}
use Rattle.goal_board.proofs.Shown.{answers_are}
use Rattle.goal_board.proofs.Betweens.{are_decided}

-- ---- the calls up to the last own one, and those behind it

pub record SplitAtLast (xs : List BoardCall) (x : BoardCall) (ys zs : List BoardCall) : Type 0 where
  pub theirs : List BoardCall
  pub before : List BoardCall
  pub behind : List BoardCall
  pub together : Merged xs theirs before
  pub all_theirs : ys ≡ theirs ++ behind
  pub all : zs ≡ before ++ x ∷ behind

pub none_own : {ys zs : List BoardCall} → (xs : List BoardCall) → xs ≡ [] → Merged xs ys zs → zs ≡ ys
none_own xs e nothing = refl
none_own xs e (from_own h) = absurd (cc)
none_own xs e (from_theirs {y = y} {xs = xs'} h) = ap (λ l. y ∷ l) (none_own xs' e h)

pub split_at_last : (own : List BoardCall) (xs : List BoardCall) (x : BoardCall) {ys zs : List BoardCall} → own ≡ xs ++ x ∷ [] → Merged own ys zs → SplitAtLast xs x ys zs
split_at_last own [] x e nothing = absurd (cc)
split_at_last own (w ∷ xs) x e nothing = absurd (cc)
split_at_last own [] x e (from_own {x = v} {xs = us} {ys = ys} h) =
    let same : v ≡ x = cc in
    let no_more : us ≡ [] = cc in
    record { theirs = []; before = []; behind = ys; together = nothing; all_theirs = refl; all = (λ i. same i ∷ none_own us no_more h i) }
split_at_last own (w ∷ xs) x e (from_own {x = v} {xs = us} h) =
    let same : w ≡ v = cc in
    let rest : us ≡ xs ++ x ∷ [] = cc in
    let k = split_at_last us xs x rest h in
    record { theirs = k.theirs; before = w ∷ k.before; behind = k.behind; together = from_own k.together; all_theirs = k.all_theirs; all = (λ i. sym same i ∷ k.all i) }
split_at_last own xs x e (from_theirs {y = y} {xs = us} h) =
    let k = split_at_last us xs x e h in
    record { theirs = y ∷ k.theirs; before = y ∷ k.before; behind = k.behind; together = from_theirs k.together; all_theirs = ap (λ l. y ∷ l) k.all_theirs; all = ap (λ l. y ∷ l) k.all }

pub plays_split : (s t : Board) (es fs : List BoardCall) → Plays s (es ++ fs) t → (m : Board) × Plays s es m × Plays m fs t
plays_split s t [] fs p = (s, refl, p)
plays_split s t (e ∷ es) fs p = let k = plays_split (step s e.event) t es fs p.2 in (k.0, (p.0, p.1, k.1), k.2)

pub all_split : {A : Type 0} (p : A → Bool) (xs ys : List A) → IsTrue (list_all p (xs ++ ys)) → IsTrue (list_all p xs) × IsTrue (list_all p ys)
all_split p [] ys h = (refl, h)
all_split p (x ∷ xs) ys h =
    let b = both_true (p x) (list_all p (xs ++ ys)) h in
    let k = all_split p xs ys b.1 in
    (all_true (p x) (list_all p xs) b.0 k.0, k.1)

-- ---- calls keep a board sound

plays_sound : (s t : Board) (es : List BoardCall) → Plays s es t → IsSound Settled answer_key IsRight s → IsSound Settled answer_key IsRight t
plays_sound s t [] p h = subst (IsSound Settled answer_key IsRight) p h
plays_sound s t (e ∷ es) p h = plays_sound (step s e.event) t es p.2 (step_sound answer_key IsRight s e.event p.0 h)

-- ---- settling opens nothing

same_keys : {es : List BoardCall} → Settling es → (ks : List Key) → fold (λ js (c : BoardCall). keys_by js c.event) ks es ≡ ks
same_keys working.Settling.no_more ks = refl
same_keys (working.Settling.settled h) ks = same_keys h ks
same_keys (working.Settling.none_left h) ks = same_keys h ks
same_keys (working.Settling.looked h) ks = same_keys h ks

-- ---- work keeps what is kept

among_last : (ks : List Key) (j k : Key) → IsTrue (is_among ks k) → IsTrue (is_among (ks ++ j ∷ []) k)
among_last [] j k h = absurd (cc)
among_last (i ∷ ks) j k h = by_test (bytes_eq k i) (λ g. among_last ks j k g) h
  where
    by_test : (b : Bool) → (IsTrue (is_among ks k) → IsTrue (is_among (ks ++ j ∷ []) k)) → IsTrue (b || is_among ks k) → IsTrue (b || is_among (ks ++ j ∷ []) k)
    by_test true f h = refl
    by_test false f h = f h

among_answer : (es : List (Key × Settled)) (j : Key) (a : Settled) (k : Key) → IsTrue (is_among (kept_keys es) k) → IsTrue (is_among (kept_keys (with_answer es j a)) k)
among_answer es j a k h = by_test (is_among (kept_keys es) j)
  where
    by_test : (b : Bool) → IsTrue (is_among (kept_keys (cond b es (es ++ (j, a) ∷ []))) k)
    by_test true = h
    by_test false = subst (λ ks. IsTrue (is_among ks k)) (sym (map-last (λ (e : Key × Settled). e.0) es (j, a))) (among_last (kept_keys es) j k h)

all_answer : (es : List (Key × Settled)) (j : Key) (a : Settled) (ks : List Key) → IsTrue (list_all (is_among (kept_keys es)) ks) → IsTrue (list_all (is_among (kept_keys (with_answer es j a))) ks)
all_answer es j a [] h = refl
all_answer es j a (k ∷ ks) h =
    let b = both_true (is_among (kept_keys es) k) (list_all (is_among (kept_keys es)) ks) h in
    all_true (is_among (kept_keys (with_answer es j a)) k) (list_all (is_among (kept_keys (with_answer es j a))) ks) (among_answer es j a k b.0) (all_answer es j a ks b.1)

claims_keep : (s : Board) (o : Option Key) → IsTrue (all_kept s) → IsTrue (all_kept (with_claim s o))
claims_keep s None h = h
claims_keep s (Some k) h = h

unless_closed : (b : Bool) (s t : Board) → IsTrue (all_kept s) → IsTrue (all_kept t) → IsTrue (all_kept (cond b s t))
unless_closed true s t h k = h
unless_closed false s t h k = k

work_keeps : (s : Board) (e : Event Settled) → is_work e ≡ true → IsTrue (all_kept s) → IsTrue (all_kept (step s e))
work_keeps s (open_keys ks) w h = absurd (cc)
work_keeps s claim w h = unless_closed s.closed s (with_claim s (wanted s)) h (claims_keep s (wanted s) h)
work_keeps s (deposit c a) w h = all_answer s.kept c.key a s.present h
work_keeps s (give_back c) w h = h
work_keeps s look w h = absurd (cc)
work_keeps s gather w h = absurd (cc)
work_keeps s close w h = absurd (cc)
work_keeps s no_memory w h = absurd (cc)

pub works_keep : (s t : Board) (es : List BoardCall) → IsTrue (list_all (λ (c : BoardCall). is_work c.event) es) → Plays s es t → IsTrue (all_kept s) → IsTrue (all_kept t)
works_keep s t [] w p h = subst (λ (b : Board). IsTrue (all_kept b)) p h
works_keep s t (e ∷ es) w p h =
    let b = both_true (is_work e.event) (list_all (λ (c : BoardCall). is_work c.event) es) w in
    works_keep (step s e.event) t es b.1 p.2 (work_keeps s e.event b.0 h)

-- ---- what is shown is kept

shown_kept : (es : List (Key × Settled)) (k : Key) → IsTrue (is_some (kept_at es k)) → IsTrue (is_among (kept_keys es) k)
shown_kept [] k h = absurd (cc)
shown_kept (e ∷ es) k h = by_test (bytes_eq k e.0) (λ g. shown_kept es k g) h
  where
    by_test : (b : Bool) → (IsTrue (is_some (kept_at es k)) → IsTrue (is_among (kept_keys es) k))
        → IsTrue (is_some (option_map {T = Key × Settled} (λ p. p.1) (cond b (Some e) (find (λ p. bytes_eq k p.0) es)))) → IsTrue (b || is_among (kept_keys es) k)
    by_test true f h = refl
    by_test false f h = f h

all_shown_kept : (es : List (Key × Settled)) (ks : List Key) → IsTrue (list_all is_some (map (kept_at es) ks)) → IsTrue (list_all (is_among (kept_keys es)) ks)
all_shown_kept es [] h = refl
all_shown_kept es (k ∷ ks) h =
    let b = both_true (is_some (kept_at es k)) (list_all is_some (map (kept_at es) ks)) h in
    all_true (is_among (kept_keys es) k) (list_all (is_among (kept_keys es)) ks) (shown_kept es k b.0) (all_shown_kept es ks b.1)

-- ---- the law

pub gathered_are_the_searchs : KeysTellApart → GatheredAreTheSearchs
gathered_are_the_searchs apart workers s t own shown qs sound h g keys =
    let last = made gather (gathered shown) in
    let k = split_at_last own g.before last g.is h.together in
    let parts = plays_split s t k.before (last ∷ k.behind) (subst (λ (es : List BoardCall). Plays s es t) k.all h.plays) in
    let m = parts.0 in
    let work = all_split (λ (c : BoardCall). is_work c.event) k.theirs k.behind (subst (λ (es : List BoardCall). IsTrue (list_all (λ (c : BoardCall). is_work c.event) es)) k.all_theirs h.are_work) in
    let d : AreDecided s g.before m = are_decided k.together work.0 s m parts.1 in
    let present : m.present ≡ map key_of qs = d.present ∙ (same_keys g.are s.present ∙ keys) in
    let told : gathered shown ≡ reply m gather = parts.2.1 in
    let is : shown ≡ map (kept_at m.kept) m.present = cc in
    let right = plays_sound s m k.before parts.1 sound in
    let all : IsTrue (all_kept m) = all_shown_kept m.kept m.present (subst (λ xs. IsTrue (list_all is_some xs)) is g.all) in (
      answers_are apart m qs shown told (subst (ShowsRight Settled answer_key IsRight m.present) (sym is) (shows_right answer_key IsRight m.kept m.present right.right)) all present,
      works_keep m t k.behind work.1 parts.2.2 all,
    )

-- ---- the other way: what is kept is shown

kept_shown : (es : List (Key × Settled)) (k : Key) → IsTrue (is_among (kept_keys es) k) → IsTrue (is_some (kept_at es k))
kept_shown [] k h = absurd (cc)
kept_shown (e ∷ es) k h = by_test (bytes_eq k e.0) (λ g. kept_shown es k g) h
  where
    by_test : (b : Bool) → (IsTrue (is_among (kept_keys es) k) → IsTrue (is_some (kept_at es k))) → IsTrue (b || is_among (kept_keys es) k)
        → IsTrue (is_some (option_map {T = Key × Settled} (λ p. p.1) (cond b (Some e) (find (λ p. bytes_eq k p.0) es))))
    by_test true f h = refl
    by_test false f h = f h

pub all_kept_shown : (es : List (Key × Settled)) (ks : List Key) → IsTrue (list_all (is_among (kept_keys es)) ks) → IsTrue (list_all is_some (map (kept_at es) ks))
all_kept_shown es [] h = refl
all_kept_shown es (k ∷ ks) h =
    let b = both_true (is_among (kept_keys es) k) (list_all (is_among (kept_keys es)) ks) h in
    all_true (is_some (kept_at es k)) (list_all is_some (map (kept_at es) ks)) (kept_shown es k b.0) (all_kept_shown es ks b.1)

-- others' work keeps what is kept
pub kept_stay : (workers : ℕ) (s t : Board) → Between workers s [] t → IsTrue (all_kept s) → IsTrue (all_kept t)
kept_stay workers s t h all = works_keep s t h.theirs h.are_work (subst (λ (es : List BoardCall). Plays s es t) (none_own [] refl h.together) h.plays) all

-- ---- a board that isn't closed doesn't say that it is

not_closed : (o : Option Key) (s : Board) → was_closed ≡ claim_reply s o → ⊥
not_closed None s e = cc
not_closed (Some k) s e = cc

pub never_closed : (workers : ℕ) (s t : Board) → Between workers s (made claim was_closed ∷ []) t → s.closed ≡ false → ⊥
never_closed workers s t h unclosed =
    let last = made claim was_closed in
    let k = split_at_last (last ∷ []) [] last refl h.together in
    let parts = plays_split s t k.before (last ∷ k.behind) (subst (λ (es : List BoardCall). Plays s es t) k.all h.plays) in
    let m = parts.0 in
    let work = all_split (λ (c : BoardCall). is_work c.event) k.theirs k.behind (subst (λ (es : List BoardCall). IsTrue (list_all (λ (c : BoardCall). is_work c.event) es)) k.all_theirs h.are_work) in
    let d : AreDecided s [] m = are_decided k.together work.0 s m parts.1 in
    let told : was_closed ≡ reply m claim = parts.2.1 in
    not_closed (wanted m) m (told ∙ ap (λ b. cond b was_closed (claim_reply m (wanted m))) (d.closed ∙ unclosed))

-- ---- an open tells the version

opened_number : {v d w c : ℕ} → ◌≡◌ {A = Reply Settled} (opened v d) (opened w c) → v ≡ w
opened_number e = cc

pub opens_tell_version : OpensTellVersion
opens_tell_version workers s t ks v d h =
    let last = made (open_keys ks) (opened v d) in
    let k = split_at_last (last ∷ []) [] last refl h.together in
    let parts = plays_split s t k.before (last ∷ k.behind) (subst (λ (es : List BoardCall). Plays s es t) k.all h.plays) in
    let m = parts.0 in
    let work = all_split (λ (c : BoardCall). is_work c.event) k.theirs k.behind (subst (λ (es : List BoardCall). IsTrue (list_all (λ (c : BoardCall). is_work c.event) es)) k.all_theirs h.are_work) in
    let e : AreDecided s [] m = are_decided k.together work.0 s m parts.1 in
    let told : opened v d ≡ reply m (open_keys ks) = parts.2.1 in
    opened_number told ∙ ap (λ n. n + 1) e.version
