pub mod Beginning
pub mod Looking
