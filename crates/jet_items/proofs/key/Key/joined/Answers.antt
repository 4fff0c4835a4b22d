use Rattle.std.proofs.Common.{List, ℕ, sym, ◌∙◌, subst}
use Rattle.jet_items.specs.KeyBytes.{IsKey}
use Rattle.jet_items.proofs.KeyLemmas.{IsKey-joined, joined_front}
use Rattle.jet_items.proofs.key.Key.joined.Goals as goal

pub key_of-requires : goal.key_of-requires
key_of-requires c =
    subst (λ (bytes : List ℕ). IsKey 40 bytes) (sym (joined_front c.bytes-own.ensures.bytes c.bytes-more.ensures.bytes c.both_padded-padded.result c.min.result c.min.ensures c.both_padded-padded.ensures))
    (IsKey-joined c.args.self.now c.args.tag.now c.bytes-own.ensures.key c.bytes-more.ensures.key)

pub returns : goal.returns
returns c = c.key_of.ensures ∙ joined_front c.bytes-own.ensures.bytes c.bytes-more.ensures.bytes c.both_padded-padded.result c.min.result c.min.ensures c.both_padded-padded.ensures
