-- A call that puts one item, or none where the box is full.
use Rattle.std.proofs.Common.{◌≡◌, Bool, true, false, List, [], ◌∷◌, ◌++◌, length, Ok, refl, sym, ◌∙◌, ap, append-nil}
use Rattle.std.specs.List.{flat_map}
use Rattle.std.proofs.lemmas.List.Concat.{flat_map-append}
use Rattle.jet_items.specs.Values.{EventValue}
use Rattle.jet_items.specs.declared.item.Item.{Item}
use Rattle.jet_boxes.specs.Held.{BoxView}
use Rattle.jet_boxes.specs.Entry.{CallEntry}
use Rattle.jet_boxes.specs.Calls.{Call}
use Rattle.jet_stages.specs.Stage.{gives, StageStands}

-- one entry more gives what it gives
pub stage_next : (f : EventValue → List EventValue) (taken : List CallEntry) (entry : CallEntry) (given put : List Item) → gives f entry ≡ put → StageStands f taken given → StageStands f (taken ++ entry ∷ []) (given ++ put)
stage_next f taken entry given put is h =
    ap (λ xs. xs ++ put) h
    ∙ (ap (λ xs. flat_map (gives f) taken ++ xs) (sym is ∙ sym (append-nil (gives f entry)))
    ∙ sym (flat_map-append (gives f) taken (entry ∷ [])))

pub call_puts : {S : Type 0} (f : S → EventValue → List EventValue) (same : S → S → Type 0) (p : S) → same p p → (entry : CallEntry) (before after : BoxView) (fits : Bool) (x : Item) → gives (f p) entry ≡ x ∷ [] → (fits ≡ true → after ≡ record before { items = before.items ++ x ∷ [] }) → (fits ≡ false → after ≡ before) → (fits ≡ false → length before.items ≡ before.room) → Call (λ q taken given. StageStands (f q) taken given) (λ q taken e given. StageStands (f q) taken given) same true p entry before (Ok fits) p after
call_puts f same p s entry before after true x is puts kept full =
    record {
      put = x ∷ [];
      settings = s;
      room = ap (λ (b : BoxView). b.room) (puts refl);
      puts = ap (λ (b : BoxView). b.items) (puts refl);
      full = λ h. cc;
      wants = tt;
      keeps = λ taken given h. stage_next (f p) taken entry given (x ∷ []) is h;
    }
call_puts f same p s entry before after false x is puts kept full =
    record {
      put = [];
      settings = s;
      room = ap (λ (b : BoxView). b.room) (kept refl);
      puts = ap (λ (b : BoxView). b.items) (kept refl) ∙ sym (append-nil before.items);
      full = λ h. rw (kept refl) (full refl);
      wants = tt;
      keeps = λ taken given h. append-nil given ∙ h;
    }
