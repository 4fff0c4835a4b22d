-- What a gift does, by where the item goes and by the answer.
use Rattle.std.specs.Prelude.{◌≡◌, ◌<◌, ℕ, length, get_or}
use Rattle.jet_items.specs.declared.item.Item.{Item}
use Rattle.jet_router.specs.declared.Given.{Given}
use Rattle.jet_router.specs.declared.Given.TheVariants.{All, Again}
use Rattle.jet_router.specs.declared.aim.Aim.{Aim}
use Rattle.jet_router.specs.declared.aim.Aim.TheVariants.{Each, Any, Only}
use Rattle.jet_router.specs.Router.{View, frees, GaveEach, Owes, SentTo, TriedFirst, NoneFree}

-- All: the item was sent where it goes. Again: each destination that it is still owed to knew of no free slot, and what goes to one destination was not sent
abbrev pub Gives : Aim → Given → View → View → Item → Type 0
Gives Each All a b x = GaveEach a b x
Gives Each Again a b x = Owes a b x
Gives Any All a b x = (d : ℕ) × SentTo a b d x × TriedFirst a d
Gives Any Again a b x = (b ≡ a) × NoneFree a 0 (length a.dests)
Gives (Only d) All a b x = SentTo a b d x
Gives (Only d) Again a b x = (b ≡ a) × (d < length a.dests) × (get_or (frees a) d 0 ≡ 0)
