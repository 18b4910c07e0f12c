-- No refusal has the number 0: of checks in order, of both files, and of two logs.
-- Assumes nothing.
use Rattle.std.proofs.Common.{Option, Some, None, Result, Ok, Err}
use Prim.Native.Nat.{ℕ, zero, suc, ◌+◌, ◌/◌, ◌%◌, ◌<◌}
use native.Mathlib.Omega.{arith}
use mathlib.Core.Path.{◌≡◌, refl, sym, ap, ◌∙◌, subst}
use mathlib.Core.Bool.{Bool, true, false, not, ◌||◌}
use mathlib.Core.List.{List, [], ◌∷◌}
use lib.Dec.{eqb, ltb}
use lib.ListN.{length, get_or}
use Rattle.blocks.specs.Search.{lowest}
use Rattle.blocks.specs.Blocks.{check_wrong, content}
use Rattle.refusal.specs.Numbers.{number_of}
use Rattle.refusal.specs.Checks.{refused, refuse_if, refuse_at, ◌and_then◌, check_from, Check}
use Rattle.refusal.specs.Lines.{length_check, blocks_check, file_check, kind_check, count_check, blocks_needed, size_check, not_zero, filler_check}
use Rattle.refusal.specs.declared.Fault.{Fault}
use Rattle.refusal.specs.declared.Refusal.{Refusal}
use Rattle.refusal.specs.declared.lines.Format.{Format}
use Rattle.refusal.proofs.Passed.{clash}
use Rattle.relation.specs.Sets.{member}
use Rattle.model.specs.declared.Signature.{Signature}
use Rattle.model.specs.Trees.{Tree}
use Rattle.algorithms.specs.Automaton.{Automaton}
use Rattle.transitions.specs.Transitions.{automaton_of}
use Rattle.membership.specs.Judged.{signature_of}
use Rattle.automaton.specs.Rules.{rule_at, misplaced, rule_refusal, rule_check}
use Rattle.automaton.specs.File.{format, header_of, payload, counts_check, beyond, sets_check, rules_check, layout_check, body_check, read_of, parsed}
use Rattle.automaton.specs.declared.Header.{Header}
use Rattle.nodes.specs.Nodes.{no_symbol, symbols_check, opened, parts_from, shape_check, tree_of, Depth, Next, Deep, depth_of, refuse_deep, height_check, nodes_check}
use Rattle.tree.specs.File.{tree_format, count_of, nodes_of, layout_check as tree-layout, body_check as tree-body, nodes_if, read_tree}
use Rattle.logs.specs.Checks.{logs_check}
use Rattle.logs.specs.Prefix.{entries_of, run_prefix}
use Rattle.logs.specs.Compare.{count_if, compared_tree, compared_read, compared_by, compared_of}
use Rattle.logs.specs.declared.Compared.{Compared}
use Rattle.logs.proofs.Telling.{both-refused, both_read}
use Rattle.automaton.specs.declared.Rule.{Rule}

-- a check that refuses by a number
abbrev Numbered : Check → Type 0
Numbered c = (r : Refusal) → c ≡ Err r → 0 < r.number

fault-numbered : (f : Fault) → 0 < number_of f
fault-numbered Fault.Length = omega arith
fault-numbered Fault.Checksum = omega arith
fault-numbered Fault.Kind = omega arith
fault-numbered Fault.Count = omega arith
fault-numbered Fault.Size = omega arith
fault-numbered Fault.Filler = omega arith
fault-numbered Fault.Set = omega arith
fault-numbered Fault.Value = omega arith
fault-numbered Fault.Move = omega arith
fault-numbered Fault.Symbol = omega arith
fault-numbered Fault.Shape = omega arith
fault-numbered Fault.Height = omega arith
fault-numbered Fault.Buffer = omega arith
fault-numbered Fault.Tally = omega arith
fault-numbered Fault.Plan = omega arith
fault-numbered Fault.Large = omega arith
fault-numbered Fault.Rules = omega arith
fault-numbered Fault.Text = omega arith
fault-numbered Fault.Tag = omega arith
fault-numbered Fault.Single = omega arith
fault-numbered Fault.Start = omega arith
fault-numbered Fault.Budget = omega arith
fault-numbered Fault.Log = omega arith

refusal-numbered : (f : Fault) (file place : ℕ) → Numbered (refused f file place)
refusal-numbered f file place r e =
    let same : ◌≡◌ {A = Refusal} (record { number = number_of f; file = file; place = place }) r = cc in
    subst (λ (x : Refusal). 0 < x.number) same (fault-numbered f)

pass-numbered : Numbered (Ok tt)
pass-numbered r e = clash (cc)

if-numbered : (b : Bool) (f : Fault) (file place : ℕ) → Numbered (refuse_if b f file place)
if-numbered true f file place = refusal-numbered f file place
if-numbered false f file place = pass-numbered

at-numbered : (f : Fault) (file : ℕ) (x : Option ℕ) → Numbered (refuse_at f file x)
at-numbered f file (Some place) = refusal-numbered f file place
at-numbered f file None = pass-numbered

then-numbered : (a b : Check) → Numbered a → Numbered b → Numbered (a and_then b)
then-numbered (Ok tt) b x y = y
then-numbered (Err r) b x y = x

each-numbered : (check : ℕ → Check) → ((i : ℕ) → Numbered (check i)) → (i n : ℕ) → Numbered (check_from check i n)
unfolding check_from
each-numbered check h i zero = pass-numbered
each-numbered check h i (suc n) = then-numbered (check i) _ (h i) (each-numbered check h (suc i) n)

-- ---- lines 1 to 6

module _ (f : Format) (p : List ℕ) where
  file-numbered : Numbered (file_check f p)
  unfolding file_check length_check blocks_check
  file-numbered =
      then-numbered (length_check f (length p)) (blocks_check f p)
      (if-numbered (eqb (length p) 0 || not (eqb (length p % 512) 0) || ltb f.most (length p)) Fault.Length f.file 0)
      (at-numbered Fault.Checksum f.file (lowest (check_wrong p) (length p / 512)))

  kind-numbered : Numbered (kind_check f p)
  unfolding kind_check
  kind-numbered = if-numbered (not (eqb (get_or p 0 0) f.kind)) Fault.Kind f.file 0

  size-numbered : (payload : ℕ) → Numbered (size_check f payload p)
  unfolding size_check
  size-numbered payload = if-numbered (not (eqb (length p / 508) (blocks_needed payload))) Fault.Size f.file (blocks_needed payload)

  filler-numbered : (payload : ℕ) → Numbered (filler_check f payload p)
  unfolding filler_check
  filler-numbered payload = at-numbered Fault.Filler f.file (lowest (not_zero f.zeros payload p) (length p))

count-numbered : (f : Format) (count least most at : ℕ) → Numbered (count_check f count least most at)
unfolding count_check
count-numbered f count least most at = if-numbered (ltb count least || ltb most count) Fault.Count f.file at

-- ---- an automaton's file

rule-numbered : (branches i : ℕ) (x : Option Rule) → Numbered (rule_refusal branches i x)
rule-numbered branches i None = refusal-numbered Fault.Value 0 i
rule-numbered branches i (Some r) = if-numbered (misplaced branches r) Fault.Move 0 i

rules-numbered : (h : Header) (p : List ℕ) → Numbered (rules_check h p)
unfolding rules_check rule_check
rules-numbered h p = each-numbered (rule_check h p) (λ i. rule-numbered h.branches i (rule_at h p i)) 0 h.rules

counts-checked : (h : Header) → Numbered (counts_check h)
unfolding counts_check
counts-checked h =
    let states = count_check format h.states 1 24 1 in
    let symbols = count_check format h.symbols 1 32 2 in
    let rules = count_check format h.rules 0 512 4 in
    then-numbered states (symbols and_then rules) (count-numbered format h.states 1 24 1)
    (then-numbered symbols rules (count-numbered format h.symbols 1 32 2) (count-numbered format h.rules 0 512 4))

sets-checked : (h : Header) → Numbered (sets_check h)
unfolding sets_check
sets-checked h =
    let initial = refuse_if (beyond h.states h.initial) Fault.Set 0 8 in
    let accepting = refuse_if (beyond h.states h.accepting) Fault.Set 0 12 in
    let branches = refuse_if (beyond h.symbols h.branches) Fault.Set 0 16 in
    then-numbered initial (accepting and_then branches) (if-numbered (beyond h.states h.initial) Fault.Set 0 8)
    (then-numbered accepting branches (if-numbered (beyond h.states h.accepting) Fault.Set 0 12)
    (if-numbered (beyond h.symbols h.branches) Fault.Set 0 16))

layout-numbered : (h : Header) (p : List ℕ) → Numbered (layout_check h p)
unfolding layout_check
layout-numbered h p =
    let size = size_check format (payload h) p in
    then-numbered (kind_check format p) (counts_check h and_then size) (kind-numbered format p)
    (then-numbered (counts_check h) size (counts-checked h) (size-numbered format p (payload h)))

body-numbered : (h : Header) (p : List ℕ) → Numbered (body_check h p)
unfolding body_check
body-numbered h p =
    let filler = filler_check format (payload h) p in
    then-numbered filler (sets_check h and_then rules_check h p) (filler-numbered format p (payload h))
    (then-numbered (sets_check h) (rules_check h p) (sets-checked h) (rules-numbered h p))

automaton-numbered : (h : Header) (s p : List ℕ) → Numbered (file_check format s and_then layout_check h p and_then body_check h p)
automaton-numbered h s p =
    then-numbered (file_check format s) (layout_check h p and_then body_check h p) (file-numbered format s)
    (then-numbered (layout_check h p) (body_check h p) (layout-numbered h p) (body-numbered h p))

parsed-numbered : (w : List ℕ) (r : Refusal) → parsed w ≡ Err r → 0 < r.number
unfolding parsed
parsed-numbered w r e =
    let p = content w in
    by (file_check format w and_then layout_check (header_of p) p and_then body_check (header_of p) p) (automaton-numbered (header_of p) w p) e
  where
    by : (c : Check) → Numbered c → read_of c (header_of (content w)) ≡ Err r → 0 < r.number
    by (Ok _) n f = clash (cc)
    by (Err x) n f = let same : x ≡ r = cc in n r (ap Err same)

-- ---- a tree's file

parts-numbered : (branches parts i : ℕ) (s : List ℕ) → Numbered (parts_from branches parts i s)
unfolding parts_from
parts-numbered branches zero i [] = pass-numbered
parts-numbered branches (suc n) i [] = refusal-numbered Fault.Shape 1 i
parts-numbered branches zero i (σ ∷ s) = refusal-numbered Fault.Shape 1 i
parts-numbered branches (suc n) i (σ ∷ s) = parts-numbered branches (opened (member branches σ) n) (i + 1) s

deep-numbered : (x : Depth) → Numbered (refuse_deep x)
deep-numbered (Deep i) = refusal-numbered Fault.Height 1 i
deep-numbered (Next n) = pass-numbered

nodes-numbered : (sg : Signature) (s : List ℕ) → Numbered (nodes_check sg s)
unfolding nodes_check symbols_check shape_check height_check
nodes-numbered sg s =
    let t = tree_of sg.branches s in
    let shape = shape_check sg.branches s in
    then-numbered (symbols_check sg s) (shape and_then height_check t) (at-numbered Fault.Symbol 1 (lowest (no_symbol sg s) (length s)))
    (then-numbered shape (height_check t) (parts-numbered sg.branches 1 0 s) (deep-numbered (depth_of 65 0 t)))

tree-numbered : (sg : Signature) (s p : List ℕ) → Numbered (file_check tree_format s and_then tree-layout p and_then tree-body sg p)
unfolding tree-layout tree-body
tree-numbered sg s p =
    let k = count_of p in
    let count = count_check tree_format k 1 4096 2 in
    let size = size_check tree_format (4 + k) p in
    let filler = filler_check tree_format (4 + k) p in
    let nodes = nodes_check sg (nodes_of k p) in
    then-numbered (file_check tree_format s) (tree-layout p and_then tree-body sg p) (file-numbered tree_format s)
    (then-numbered (tree-layout p) (tree-body sg p)
    (then-numbered (kind_check tree_format p) (count and_then size) (kind-numbered tree_format p)
    (then-numbered count size (count-numbered tree_format k 1 4096 2) (size-numbered tree_format p (4 + k))))
    (then-numbered filler nodes (filler-numbered tree_format p (4 + k)) (nodes-numbered sg (nodes_of k p))))

tree-read-numbered : (sg : Signature) (s : List ℕ) (r : Refusal) → read_tree sg s ≡ Err r → 0 < r.number
unfolding read_tree
tree-read-numbered sg s r e =
    let p = content s in
    by (file_check tree_format s and_then tree-layout p and_then tree-body sg p) (tree-numbered sg s p) e
  where
    by : (c : Check) → Numbered c → nodes_if c (count_of (content s)) ≡ Err r → 0 < r.number
    by (Ok _) n f = clash (cc)
    by (Err x) n f = let same : x ≡ r = cc in n r (ap Err same)

-- ---- two logs

logs-numbered : (a b : List ℕ) → Numbered (logs_check a b)
unfolding logs_check
logs-numbered a b =
    let one = not (eqb (length a % 3) 0) in
    let two = not (eqb (length b % 3) 0) in
    then-numbered (refuse_if one Fault.Log 2 0) (refuse_if two Fault.Log 2 1) (if-numbered one Fault.Log 2 0) (if-numbered two Fault.Log 2 1)

module _ (A : Automaton) (s a b : List ℕ) (r : Refusal) where
  counts-numbered : (t : Tree) → compared_tree A t a b ≡ Err r → 0 < r.number
  unfolding compared_tree
  counts-numbered t e = by (logs_check a b) (logs-numbered a b) e
    where
      by : (c : Check) → Numbered c → count_if c (run_prefix A t (entries_of a)) (run_prefix A t (entries_of b)) ≡ Err r → 0 < r.number
      by (Ok _) n f = clash (cc)
      by (Err x) n f = let same : x ≡ r = cc in n r (ap Err same)

  read-numbered : compared_by A s a b ≡ Err r → 0 < r.number
  unfolding compared_by
  read-numbered e = by (read_tree (signature_of A) s) refl e
    where
      by : (x : Result ℕ Refusal) → read_tree (signature_of A) s ≡ x → compared_read A x s a b ≡ Err r → 0 < r.number
      by (Err x) f g = let same : x ≡ r = cc in tree-read-numbered (signature_of A) s r (f ∙ ap Err same)
      by (Ok k) f g = counts-numbered (tree_of A.branches (nodes_of k (content s))) g

pub compared-numbered : (w s a b : List ℕ) (r : Refusal) → compared_of w s a b ≡ Err r → 0 < r.number
compared-numbered w s a b r e = by (parsed w) refl
  where
    by : (x : Result Header Refusal) → parsed w ≡ x → 0 < r.number
    by (Ok h) f = read-numbered (automaton_of h (content w)) s a b r (sym (both_read w s a b h f) ∙ e)
    by (Err x) f =
        let g : ◌≡◌ {A = Result Compared Refusal} (Err x) (Err r) = both-refused w s a b x f ∙ e in
        let same : x ≡ r = cc in
        parsed-numbered w r (f ∙ ap Err same)
