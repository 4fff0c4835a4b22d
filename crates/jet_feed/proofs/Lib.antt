pub mod BadLemmas
pub mod FedLemmas
pub mod FrontLemmas
pub mod ItemLemmas
pub mod StepLemmas
