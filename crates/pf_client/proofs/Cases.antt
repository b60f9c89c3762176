-- Answers by their cases.
use Rattle.std.proofs.Common.{◌≡◌, ◌⊎◌, inl, inr, Bool, true, false, Result, Ok, Err, IfOk, OnErr, OnOk, refl}

pub bool_cases : (b : Bool) → (b ≡ true) ⊎ (b ≡ false)
bool_cases true = inl refl
bool_cases false = inr refl

pub if_ok_map : {A E : Type 0} (P Q : A → Type 0) (r : Result A E) → ((x : A) → P x → Q x) → IfOk r P → IfOk r Q
if_ok_map P Q (Ok x) f h = f x h
if_ok_map P Q (Err e) f h = tt

pub if_ok_two : {A E : Type 0} (P : Type 0) (Q R : A → Type 0) (r : Result A E) → ((x : A) → P → Q x → R x) → OnOk r P → IfOk r Q → IfOk r R
if_ok_two P Q R (Ok x) f p h = f x p h
if_ok_two P Q R (Err e) f p h = tt

pub on_ok_all : {A E : Type 0} (P : Type 0) (r : Result A E) → P → OnOk r P
on_ok_all P (Ok x) p = p
on_ok_all P (Err e) p = tt

pub on_ok_map : {A E : Type 0} (P Q : Type 0) (r : Result A E) → (P → Q) → OnOk r P → OnOk r Q
on_ok_map P Q (Ok x) f p = f p
on_ok_map P Q (Err e) f p = tt

pub on_ok_two : {A E : Type 0} (P Q R : Type 0) (r : Result A E) → (P → Q → R) → OnOk r P → OnOk r Q → OnOk r R
on_ok_two P Q R (Ok x) f p q = f p q
on_ok_two P Q R (Err e) f p q = tt

pub on_err_all : {A E : Type 0} (P : Type 0) (r : Result A E) → P → OnErr r P
on_err_all P (Ok x) p = tt
on_err_all P (Err e) p = p

pub on_err_map : {A E : Type 0} (P Q : Type 0) (r : Result A E) → (P → Q) → OnErr r P → OnErr r Q
on_err_map P Q (Ok x) f p = tt
on_err_map P Q (Err e) f p = f p
