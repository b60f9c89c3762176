-- What is read of nodes one after another is what a call reads of them.
use Rattle.std.proofs.Common.{◌≡◌, ◌<◌, ℕ, ℤ, Option, Some, None, List, [], ◌∷◌, ◌++◌, map, Vec, Global, refl, sym, ap, ◌∙◌, append_assoc, append-nil, subst, length, arith}
use Rattle.std.proofs.lemmas.List.{map_push}
use Rattle.std.specs.Prelude.{IfOk, Result, Ok, Err}
use Rattle.pf_model.specs.declared.cell.Element.{Element}
use Rattle.pf_model.specs.declared.cell.ErrorKind.{ErrorKind}
use Rattle.pf_model.specs.declared.cell.StepCell.TheVariants.{Good}
use Rattle.pf_model.specs.Outcomes.{Outcome, first_bad, of_cell, scalars_of, texts_of, vector_of}
use Rattle.pf_columns.specs.Columns.{AreRising, ColumnData, cell_at, columns_labels, value_in}
use Rattle.pf_columns.specs.Steps.{StepsData, bad_in, unless_bad}
use Rattle.pf_eval.specs.declared.arguments.Arguments.{Arguments}
use Rattle.pf_eval.specs.declared.arguments.Splitting.{Splitting}
use Rattle.pf_eval.specs.declared.node.Node.{Node}
use Rattle.pf_eval.specs.declared.node.Node.TheVariants as node
use Rattle.pf_eval.specs.declared.node.Scalars.{Scalars}
use Rattle.pf_eval.specs.Arguments.{AreArguments, IsRising, Splits, columns_in, error_at, outcome_unless, scalars_in, vector_or}
use Rattle.pf_eval.specs.Nodes.{first_of, nodes_at, scalar_unless, texts_in}

-- ---- the first error, the vector, the scalars and the texts of a step

scalar_first : (b e : Option ErrorKind) (v : Option ℤ) (os : List Outcome) (o : Outcome)
    → first_bad os o ≡ outcome_unless e o → first_bad (scalar_unless b v ∷ os) o ≡ outcome_unless (first_of b e) o
scalar_first None e v os o h = h
scalar_first (Some kind) e v os o h = refl

vector_first : (b e : Option ErrorKind) (es : List Element) (os : List Outcome) (o : Outcome)
    → first_bad os o ≡ outcome_unless e o → first_bad (of_cell (unless_bad b (Good es)) ∷ os) o ≡ outcome_unless (first_of b e) o
vector_first None e es os o h = h
vector_first (Some kind) e es os o h = refl

error_is : (ns : List Node) (k : ℕ) (o : Outcome) → first_bad (nodes_at ns k) o ≡ outcome_unless (error_at ns k) o
error_is [] k o = refl
error_is (node.Scalar s ∷ ns) k o =
    scalar_first (bad_in s.bads.items k) (error_at ns k) (value_in s.values.items k) (nodes_at ns k) o (error_is ns k o)
error_is (node.Vector s ∷ ns) k o =
    vector_first (bad_in s.bads k) (error_at ns k) (cell_at s.columns k) (nodes_at ns k) o (error_is ns k o)
error_is (node.Text t ∷ ns) k o = error_is ns k o

scalar_passed : (b e : Option ErrorKind) (v : Option ℤ) (os : List Outcome) (es : List Element)
    → (e ≡ None → vector_of os ≡ es) → first_of b e ≡ None → vector_of (scalar_unless b v ∷ os) ≡ es
scalar_passed None e v os es h n = h n
scalar_passed (Some kind) e v os es h n = cc

vector_taken : (b e : Option ErrorKind) (es : List Element) (os : List Outcome) → first_of b e ≡ None → vector_of (of_cell (unless_bad b (Good es)) ∷ os) ≡ es
vector_taken None e es os n = refl
vector_taken (Some kind) e es os n = cc

vector_is : (ns : List Node) (k : ℕ) → error_at ns k ≡ None → vector_of (nodes_at ns k) ≡ cell_at (columns_in ns) k
vector_is [] k n = refl
vector_is (node.Scalar s ∷ ns) k n =
    scalar_passed (bad_in s.bads.items k) (error_at ns k) (value_in s.values.items k) (nodes_at ns k) (cell_at (columns_in ns) k) (vector_is ns k) n
vector_is (node.Vector s ∷ ns) k n = vector_taken (bad_in s.bads k) (error_at ns k) (cell_at s.columns k) (nodes_at ns k) n
vector_is (node.Text t ∷ ns) k n = vector_is ns k n

scalar_taken : (b e : Option ErrorKind) (v : Option ℤ) (os : List Outcome) (vs : List (Option ℤ))
    → (e ≡ None → scalars_of os ≡ vs) → first_of b e ≡ None → scalars_of (scalar_unless b v ∷ os) ≡ v ∷ vs
scalar_taken None e v os vs h n = ap (λ ws. v ∷ ws) (h n)
scalar_taken (Some kind) e v os vs h n = cc

vector_passed : (b e : Option ErrorKind) (es : List Element) (os : List Outcome) (vs : List (Option ℤ))
    → (e ≡ None → scalars_of os ≡ vs) → first_of b e ≡ None → scalars_of (of_cell (unless_bad b (Good es)) ∷ os) ≡ vs
vector_passed None e es os vs h n = h n
vector_passed (Some kind) e es os vs h n = cc

scalars_are : (ns : List Node) (k : ℕ) → error_at ns k ≡ None → scalars_of (nodes_at ns k) ≡ map (λ vs. value_in vs k) (scalars_in ns)
scalars_are [] k n = refl
scalars_are (node.Scalar s ∷ ns) k n =
    scalar_taken (bad_in s.bads.items k) (error_at ns k) (value_in s.values.items k) (nodes_at ns k) (map (λ vs. value_in vs k) (scalars_in ns)) (scalars_are ns k) n
scalars_are (node.Vector s ∷ ns) k n =
    vector_passed (bad_in s.bads k) (error_at ns k) (cell_at s.columns k) (nodes_at ns k) (map (λ vs. value_in vs k) (scalars_in ns)) (scalars_are ns k) n
scalars_are (node.Text t ∷ ns) k n = scalars_are ns k n

scalar_no_text : (b : Option ErrorKind) (v : Option ℤ) (os : List Outcome) → texts_of (scalar_unless b v ∷ os) ≡ texts_of os
scalar_no_text None v os = refl
scalar_no_text (Some kind) v os = refl

vector_no_text : (b : Option ErrorKind) (es : List Element) (os : List Outcome) → texts_of (of_cell (unless_bad b (Good es)) ∷ os) ≡ texts_of os
vector_no_text None es os = refl
vector_no_text (Some kind) es os = refl

texts_are : (ns : List Node) (k : ℕ) → texts_of (nodes_at ns k) ≡ texts_in ns
texts_are [] k = refl
texts_are (node.Scalar s ∷ ns) k = scalar_no_text (bad_in s.bads.items k) (value_in s.values.items k) (nodes_at ns k) ∙ texts_are ns k
texts_are (node.Vector s ∷ ns) k = vector_no_text (bad_in s.bads k) (cell_at s.columns k) (nodes_at ns k) ∙ texts_are ns k
texts_are (node.Text t ∷ ns) k = ap (λ ts. t ∷ ts) (texts_are ns k)

-- ---- one argument more

first_of_three : (a b c : Option ErrorKind) → first_of (first_of a b) c ≡ first_of a (first_of b c)
first_of_three None b c = refl
first_of_three (Some kind) b c = refl

with_none : (o : Option ErrorKind) → first_of o None ≡ o
with_none None = refl
with_none (Some kind) = refl

module _ (len : ℕ) (all rest : List Node) (s t : Splitting) where
  pub scalar_splits : (x : Scalars) → ((k : ℕ) → k < len → bad_in t.bads.items k ≡ first_of (bad_in s.bads.items k) (bad_in x.bads.items k))
      → t.vector ≡ s.vector → t.scalars.items ≡ s.scalars.items ++ (x.values ∷ []) → t.texts.items ≡ s.texts.items
      → Splits len all s (node.Scalar x ∷ rest) → Splits len all t rest
  scalar_splits x b v c e h = record {
    bads = λ k l. ap (λ o. first_of o (error_at rest k)) (b k l)
        ∙ first_of_three (bad_in s.bads.items k) (bad_in x.bads.items k) (error_at rest k) ∙ h.bads k l;
    vector = ap (λ w. vector_or w (columns_in rest)) v ∙ h.vector;
    scalars = ap (λ vs. map (λ w. w.items) vs ++ scalars_in rest) c
        ∙ ap (λ vs. vs ++ scalars_in rest) (map_push (λ w. w.items) s.scalars.items x.values)
        ∙ append_assoc (map (λ w. w.items) s.scalars.items) (x.values.items ∷ []) (scalars_in rest) ∙ h.scalars;
    texts = ap (λ ts. ts ++ texts_in rest) e ∙ h.texts;
    rising = subst IsRising (sym v) h.rising;
  }

  pub vector_splits : (x : StepsData) → ((k : ℕ) → k < len → bad_in t.bads.items k ≡ first_of (bad_in s.bads.items k) (bad_in x.bads k))
      → ((cs : List ColumnData) → vector_or t.vector cs ≡ vector_or s.vector x.columns) → (IsRising s.vector → IsRising t.vector)
      → t.scalars.items ≡ s.scalars.items → t.texts.items ≡ s.texts.items
      → Splits len all s (node.Vector x ∷ rest) → Splits len all t rest
  vector_splits x b v r c e h = record {
    bads = λ k l. ap (λ o. first_of o (error_at rest k)) (b k l)
        ∙ first_of_three (bad_in s.bads.items k) (bad_in x.bads k) (error_at rest k) ∙ h.bads k l;
    vector = v (columns_in rest) ∙ h.vector;
    scalars = ap (λ vs. map (λ w. w.items) vs ++ scalars_in rest) c ∙ h.scalars;
    texts = ap (λ ts. ts ++ texts_in rest) e ∙ h.texts;
    rising = r h.rising;
  }

  pub text_splits : (x : List ℕ) → t.bads.items ≡ s.bads.items → t.vector ≡ s.vector → t.scalars.items ≡ s.scalars.items → t.texts.items ≡ s.texts.items ++ (x ∷ [])
      → Splits len all s (node.Text x ∷ rest) → Splits len all t rest
  text_splits x b v c e h = record {
    bads = λ k l. ap (λ bs. first_of (bad_in bs k) (error_at rest k)) b ∙ h.bads k l;
    vector = ap (λ w. vector_or w (columns_in rest)) v ∙ h.vector;
    scalars = ap (λ vs. map (λ w. w.items) vs ++ scalars_in rest) c ∙ h.scalars;
    texts = ap (λ ts. ts ++ texts_in rest) e ∙ append_assoc s.texts.items (x ∷ []) (texts_in rest) ∙ h.texts;
    rising = subst IsRising (sym v) h.rising;
  }

-- ---- all of them

read_items : (k : ℕ) (vs : List (Vec (Option ℤ) Global)) → map (λ w. value_in w k) (map (λ w. w.items) vs) ≡ map (λ w. value_in w.items k) vs
read_items k [] = refl
read_items k (v ∷ vs) = ap (λ ws. value_in v.items k ∷ ws) (read_items k vs)

module _ (len : ℕ) (ns : List Node) (s : Splitting) (a : Arguments) (h : Splits len ns s []) (b : a.bads.items ≡ s.bads.items) where
  error_there : (k : ℕ) → k < len → error_at ns k ≡ bad_in a.bads.items k
  error_there k l = sym (h.bads k l) ∙ with_none (bad_in s.bads.items k) ∙ ap (λ bs. bad_in bs k) (sym b)

  pub are_arguments : a.columns.items ≡ vector_or s.vector [] → a.scalars.items ≡ s.scalars.items → a.texts.items ≡ s.texts.items → AreArguments len ns a
  are_arguments c v e =
      let columns : columns_in ns ≡ a.columns.items = sym h.vector ∙ sym c in
      let texts : texts_in ns ≡ a.texts.items = sym h.texts ∙ append-nil s.texts.items ∙ sym e in
      let scalars : scalars_in ns ≡ map (λ w. w.items) a.scalars.items =
      sym h.scalars ∙ append-nil (map (λ w. w.items) s.scalars.items) ∙ ap (map (λ w. w.items)) (sym v) in
      record {
        bads = λ k o l. error_is ns k o ∙ ap (λ x. outcome_unless x o) (error_there k l);
        vector = λ k l n. vector_is ns k (error_there k l ∙ n) ∙ ap (λ cs. cell_at cs k) columns;
        scalars = λ k l n. scalars_are ns k (error_there k l ∙ n) ∙ ap (map (λ w. value_in w k)) scalars ∙ read_items k a.scalars.items;
        texts = λ k. texts_are ns k ∙ texts;
        texts_in = texts;
        rising = subst (λ cs. AreRising (columns_labels cs)) (sym c) h.rising;
      }

-- ---- before the first, and behind the last

pub begun : (len : ℕ) (all : List Node) (s : Splitting) → s.bads.items ≡ [] → s.vector ≡ None → s.scalars.items ≡ [] → s.texts.items ≡ [] → Splits len all s all
begun len all s b v c e = record {
  bads = λ k l. ap (λ bs. first_of (bad_in bs k) (error_at all k)) b;
  vector = ap (λ w. vector_or w (columns_in all)) v;
  scalars = ap (λ vs. map (λ w. w.items) vs ++ scalars_in all) c;
  texts = ap (λ ts. ts ++ texts_in all) e;
  rising = subst IsRising (sym v) tt;
}

pub nothing_left : {X : Type 0} (xs : List X) → length xs ≡ 0 → xs ≡ []
nothing_left [] h = refl
nothing_left (x ∷ xs) h = absurd (omega (arith, h))

pub text_given : {E : Type 0} (len : ℕ) (s : Splitting) (n : Node) (x : List ℕ) (r : Result Splitting E) → n ≡ node.Text x
    → IfOk r (λ t. (m : ℕ) (all rest : List Node) → Splits m all s (node.Text x ∷ rest) → Splits m all t rest)
    → IfOk r (λ t. (all rest : List Node) → Splits len all s (n ∷ rest) → Splits len all t rest)
text_given len s n x (Ok t) is h = λ all rest a. h len all rest (subst (λ y. Splits len all s (y ∷ rest)) is a)
text_given len s n x (Err e) is h = tt
