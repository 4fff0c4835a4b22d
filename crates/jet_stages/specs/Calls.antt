-- What a call of each stage does: what a call of each processor does, with what the stage stands for.
use Rattle.std.specs.Prelude.{◌≡◌, Bool, true, Result}
use Rattle.jet_items.specs.declared.no_memory.NoMemory.{NoMemory}
use Rattle.jet_boxes.specs.Calls.{Call}
use Rattle.jet_boxes.specs.Entry.{CallEntry}
use Rattle.jet_boxes.specs.Held.{BoxView}
use Rattle.jet_stages.specs.declared.filter.FilterP.{FilterP}
use Rattle.jet_stages.specs.declared.flat.FlatP.{FlatP}
use Rattle.jet_stages.specs.declared.map.MapP.{MapP}
use Rattle.jet_stages.specs.declared.stamp.Stamp.{Stamp}
use Rattle.jet_stages.specs.Filter.{filtered}
use Rattle.jet_stages.specs.Flat.{FlatStands, FlatAmid}
use Rattle.jet_stages.specs.Map.{remade}
use Rattle.jet_stages.specs.Stage.{StageStands}
use Rattle.jet_stages.specs.Stamping.{Stands, Amid, Same}

abbrev pub FilterCall : FilterP → CallEntry → BoxView → Result Bool NoMemory → FilterP → BoxView → Type 0
FilterCall p entry before result q after =
    Call {S = FilterP} (λ f taken given. StageStands (filtered f.test) taken given) (λ f taken x given. StageStands (filtered f.test) taken given) (λ f g. g.test ≡ f.test) true p entry before result q after

abbrev pub MapCall : MapP → CallEntry → BoxView → Result Bool NoMemory → MapP → BoxView → Type 0
MapCall p entry before result q after =
    Call {S = MapP} (λ m taken given. StageStands (remade m.set) taken given) (λ m taken x given. StageStands (remade m.set) taken given) (λ m n. n.set ≡ m.set) true p entry before result q after

abbrev pub FlatCall : FlatP → CallEntry → BoxView → Result Bool NoMemory → FlatP → BoxView → Type 0
FlatCall p entry before result q after =
    Call {S = FlatP} (λ f taken given. FlatStands f.legs.items f.next taken given) (λ f taken x given. FlatAmid f.legs.items f.next taken x given) (λ f g. g.legs ≡ f.legs) true p entry before result q after

abbrev pub StampCall : Stamp → CallEntry → BoxView → Result Bool NoMemory → Stamp → BoxView → Type 0
StampCall p entry before result q after = Call {S = Stamp} Stands Amid Same true p entry before result q after
