pub mod ContentLemmas
pub mod Examples
pub mod GoesLaws
pub mod LineEndLemmas
pub mod PaceLaws
pub mod ReadLemmas
pub mod TextLemmas
pub mod WriteLemmas
