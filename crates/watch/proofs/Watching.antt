-- The laws of document 02's W7, of the walk of a single automaton with one start state. The quotations are of W7. `Right` has them of files.
-- Assumes nothing.
use Prim.Native.Nat.{ℕ, ◌*◌, ◌≤◌, ◌<◌}
use native.Mathlib.Omega.{arith}
use mathlib.Core.Path.{◌≡◌, refl, ap, ◌∙◌, subst}
use mathlib.Core.Logic.{◌↔◌}
use mathlib.Core.List.{List, [], ◌∷◌, ◌++◌}
use lib.ListN.{length, take, drop}
use lib.Seq.{take_at, drop_at}
use Rattle.model.specs.declared.Place.TheVariants.{Root}
use Rattle.model.specs.Trees.{Tree}
use Rattle.model.specs.Runs.{Position, Config, Run, Deterministic}
use Rattle.algorithms.specs.Automaton.{Automaton, In, Δ, Accepted, Proper}
use Rattle.refusal.proofs.Passed.{clash}
use Rattle.links.specs.Numbers.{Numbered, first}
use Rattle.watch.specs.Walk.{Entry, most_steps, walk, bytes_of}
use Rattle.watch.specs.Watch.{log_after}
use Rattle.watch.specs.Promise.{Passing, Halted, Logged, stands, steps, Stopped, passed, stuck, circling, spent}
use Rattle.watch.specs.declared.Watched.{Watched}
use Rattle.watch.proofs.Logs.{bytes-length}
use Rattle.watch.proofs.Ways.{Walked, walked, logged-run, halted-rejects, circling-rejects}

-- ---- what an answer says of where the walk stands

module _ {A : Automaton} {t : Tree} {budget : ℕ} {d : Config} where
  stood-passing : {r : Watched} {n : ℕ} → Stopped A t budget d r → r ≡ Watched.Passed n → Passing A t d
  stood-passing (passed h) e = h
  stood-passing (stuck h k) e = clash (cc)
  stood-passing (circling h k l) e = clash (cc)
  stood-passing (spent h k l m) e = clash (cc)

  stood-halted : {r : Watched} {n : ℕ} → Stopped A t budget d r → r ≡ Watched.Stuck n → (¬ Passing A t d) × Halted A t d
  stood-halted (passed h) e = clash (cc)
  stood-halted (stuck h k) e = (h, k)
  stood-halted (circling h k l) e = clash (cc)
  stood-halted (spent h k l m) e = clash (cc)

  stood-short : {r : Watched} {n : ℕ} → Stopped A t budget d r → r ≡ Watched.Spent n → (n < most_steps A t) × (n ≡ budget)
  stood-short (passed h) e = clash (cc)
  stood-short (stuck h k) e = clash (cc)
  stood-short (circling h k l) e = clash (cc)
  stood-short {n = n} (spent {n = m} h k l b) e = let same : n ≡ m = cc in (rw same l, same ∙ b)

module _ (A : Automaton) (proper : Proper A) (det : Deterministic (Δ A)) (t : Tree) (start : ℕ) (starts : In A.initial start)
    (only : (q : ℕ) → In A.initial q → q ≡ start) (budget : ℕ) where
  -- "follow the run and log each position": the entries are the configurations of a run from the root in the start state, and the answer says
  -- where it stands at the end
  pub walk-walked : Walked A t budget 0 ([], start) (walk A t start budget)
  walk-walked = walked A t proper det budget 0 0 start budget (omega arith) (omega arith) [] t first

  from_start : (a : Accepted A t) → Run (Δ A) Root t ([], start) ([], a.1)
  from_start a = subst (λ (q : ℕ). Run (Δ A) Root t ([], q) ([], a.1)) (only a.0 a.2) a.4

  -- "Passed implies the letter is accepted" ..
  pub passed-accepted : (n : ℕ) → (walk A t start budget).answer ≡ Watched.Passed n → Accepted A t
  passed-accepted n e =
      let w = walk-walked in
      let h = stood-passing w.stopped e in
      (start, w.last.1, starts, h.1, subst (λ (α : Position). Run (Δ A) Root t ([], start) (α, w.last.1)) h.0 (logged-run A t w.run))

  -- .. "Stuck" ..
  pub stuck-rejected : (n : ℕ) → (walk A t start budget).answer ≡ Watched.Stuck n → ¬ Accepted A t
  stuck-rejected n e a =
      let w = walk-walked in
      let h = stood-halted w.stopped e in
      halted-rejects A t det w.run h.0 h.1 (refl, a.3) (from_start a)

  -- .. "and Circling imply it isn't"
  pub circling-rejected : (n : ℕ) → (walk A t start budget).answer ≡ Watched.Circling n → ¬ Accepted A t
  circling-rejected n e a = circling-rejects A t proper det budget start n (proper.initials start starts) e a.1 a.3 (from_start a)

  -- with a budget of nodes × states or more, Spent never comes ..
  pub never-spent : most_steps A t ≤ budget → (n : ℕ) → ¬ ((walk A t start budget).answer ≡ Watched.Spent n)
  never-spent enough n e = let h = stood-short walk-walked.stopped e in omega (arith, h.0, h.1)

  -- .. so that the answer is Passed exactly if the tree is accepted
  pub passed-exactly : most_steps A t ≤ budget → ((n : ℕ) × ((walk A t start budget).answer ≡ Watched.Passed n)) ↔ Accepted A t
  passed-exactly enough = (λ h. passed-accepted h.0 h.1, λ a. by (walk A t start budget).answer refl a)
    where
      by : (r : Watched) → (walk A t start budget).answer ≡ r → Accepted A t → (n : ℕ) × ((walk A t start budget).answer ≡ Watched.Passed n)
      by (Watched.Passed n) e a = (n, e)
      by (Watched.Stuck n) e a = absurd (stuck-rejected n e a)
      by (Watched.Circling n) e a = absurd (circling-rejected n e a)
      by (Watched.Spent n) e a = absurd (never-spent enough n e)

-- ---- the log

-- its front has the entries' bytes ..
pub log-front : (es : List Entry) (log : List ℕ) → take (3 * length es) (log_after es log) ≡ bytes_of es
log-front es log = take_at (bytes_of es) (drop (3 * length es) log) (3 * length es) (bytes-length es)

-- .. and "bytes after the log are unchanged": there is one entry more than steps, so that these are the bytes from 3 × (steps + 1) on
pub log-rest : (es : List Entry) (log : List ℕ) → drop (3 * length es) (log_after es log) ≡ drop (3 * length es) log
log-rest es log = drop_at (bytes_of es) (drop (3 * length es) log) (3 * length es) (bytes-length es)

-- the last entry is where the walk stands
pub last-stands : {A : Automaton} {t : Tree} {c d : Config} {es : List Entry} → Logged A t c es d
    → (before : List Entry) × (j : ℕ) × (u : Tree) × (es ≡ before ++ (j, d.1) ∷ []) × Numbered t j d.0 u
last-stands (stands {u = u} {i = i} n) = ([], i, u, refl, n)
last-stands (steps {i = i} {p = p} n h x l) =
    let r = last-stands l in
    ((i, p) ∷ r.0, r.1, r.2, ap (λ (es : List Entry). (i, p) ∷ es) r.3, r.4)
