-- A call of a flat for an event.
use Rattle.std.proofs.Common.{◌≡◌, ℕ, Bool, true, false, List, [], ◌∷◌, ◌++◌, map, drop, length, Ok, refl, sym, ◌∙◌, ap, append_assoc, append-nil}
use Rattle.std.specs.List.{flat_map}
use Rattle.std.proofs.lemmas.List.Concat.{flat_map-append}
use Rattle.jet_items.specs.Values.{EventValue}
use Rattle.jet_items.specs.declared.item.Item.{Item}
use Rattle.jet_items.specs.declared.item.Item.TheVariants as item
use Rattle.jet_boxes.specs.declared.port.Port.{Port}
use Rattle.jet_boxes.specs.Held.{BoxView}
use Rattle.jet_boxes.specs.Entry.{CallEntry, Given}
use Rattle.jet_boxes.specs.Calls.{Call}
use Rattle.jet_stages.specs.declared.flat.FlatP.{FlatP}
use Rattle.jet_stages.specs.declared.leg.Leg.{Leg}
use Rattle.jet_stages.specs.Stage.{gives}
use Rattle.jet_stages.specs.Flat.{legs_give, FlatStands, FlatAmid, Progress}

-- what the legs from `next` on give for the event
abbrev LeftFrom : List Leg → ℕ → EventValue → List Item
LeftFrom legs next e = map item.Event (legs_give (drop next legs) e)

ends : (legs : List Leg) (next : ℕ) (port : Port) (queue : ℕ) (e : EventValue) (taken : List CallEntry) (given : List Item) → FlatAmid legs next taken (Given port queue (item.Event e)) given → FlatStands legs 0 (taken ++ Given port queue (item.Event e) ∷ []) (given ++ LeftFrom legs next e)
ends legs next port queue e taken given h =
    (refl, h ∙ (ap (λ xs. flat_map (gives (legs_give legs)) taken ++ xs) (sym (append-nil (map item.Event (legs_give legs e)))) ∙ sym (flat_map-append (gives (legs_give legs)) taken (Given port queue (item.Event e) ∷ []))))

goes_on : (legs : List Leg) (next next' : ℕ) (port : Port) (queue : ℕ) (e : EventValue) (before after : List Item) → (p : Progress before (LeftFrom legs next e) after (LeftFrom legs next' e)) → (taken : List CallEntry) (given : List Item) → FlatAmid legs next taken (Given port queue (item.Event e)) given → FlatAmid legs next' taken (Given port queue (item.Event e)) (given ++ p.put)
goes_on legs next next' port queue e before after p taken given h =
    append_assoc given p.put (LeftFrom legs next' e) ∙ (ap (λ xs. given ++ xs) p.rest ∙ h)

pub flat_call : (p q : FlatP) (port : Port) (queue : ℕ) (e : EventValue) (before after : BoxView) (all : Bool) → q.legs ≡ p.legs → after.room ≡ before.room → (all ≡ true → (q.next ≡ 0) × (after.items ≡ before.items ++ LeftFrom p.legs.items p.next e)) → (all ≡ false → Progress before.items (LeftFrom p.legs.items p.next e) after.items (LeftFrom p.legs.items q.next e)) → (all ≡ false → length after.items ≡ after.room) → Call (λ f taken given. FlatStands f.legs.items f.next taken given) (λ f taken entry given. FlatAmid f.legs.items f.next taken entry given) (λ f g. g.legs ≡ f.legs) true p (Given port queue (item.Event e)) before (Ok all) q after
flat_call p q port queue e before after true same room whole some full =
    record {
      put = LeftFrom p.legs.items p.next e;
      settings = same;
      room = room;
      puts = (whole refl).1;
      full = λ h. cc;
      wants = tt;
      keeps = λ taken given h. rw (same, (whole refl).0) (ends p.legs.items p.next port queue e taken given h);
    }
flat_call p q port queue e before after false same room whole some full =
    record {
      put = (some refl).put;
      settings = same;
      room = room;
      puts = (some refl).puts;
      full = λ h. full refl;
      wants = tt;
      keeps = λ taken given h. rw same (goes_on p.legs.items p.next q.next port queue e before.items after.items (some refl) taken given h);
    }
