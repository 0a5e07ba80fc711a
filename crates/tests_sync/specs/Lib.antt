pub mod OneRoom
